-- The passage of what a running command said (docs/PROTOCOL.md, "Answers").
use Rattle.std.specs.Prelude.{[]}
use Rattle.ink_look.specs.declared.said.Said.{Said}
use Rattle.ink_model.specs.Run.Configuration.{Configuration, can_go_on}
use Rattle.ink_model.specs.Protocol.Passage.{is_loose}
use Rattle.ink_model.specs.Protocol.Turns.{open_choices}
use Rattle.ink_model.specs.declared.passage.Passage.{Passage}

-- with the choices that are open, and how flow stands; its events come with it later
abbrev pub passage_of : Said → Configuration → Passage
passage_of w c = record {
  text = w.text;
  tags = w.tags;
  choices = open_choices c;
  events = [];
  more = can_go_on c;
  loose = is_loose c;
}
