use Rattle.ink_out.proofs.Marks.{output_free}
use Rattle.ink_out.specs.Undo.{output_stood}
use Rattle.ink_step.proofs.Common.{Stood, config_of, place_of}
use Rattle.std.proofs.Common.{◌≡◌, None, arith}
use Rattle.std.proofs.Common.{◌∙◌, ap, map, sym}
use Rattle.ink_model.specs.Run.Configuration.{map_choice, settled, unnumbered_choice, with_choices, with_threads}
use Rattle.ink_model.specs.Run.Effect.{with_page}
use Rattle.ink_model.specs.Flow.Frames.{map_threads, unnumbered_threads}
use Rattle.ink_model.specs.Text.Output.{empty_page}
use Rattle.ink_model.proofs.Maps.{choices_unnumbered_map, unnumbered_map}
use Rattle.ink_step.proofs.machine.Machine.settle.Goals as goal

pub returns-clause-settled : goal.returns-clause-settled
unfolding settled
returns-clause-settled c s =
    let old = config_of s c.args.self.now in
    let ts = map_threads (place_of s) (unnumbered_threads c.args.self.now.flow.threads.threads) in
    let cs = map (map_choice (place_of s)) (map unnumbered_choice c.args.self.now.flow.choices.items) in
    ap (λ ts. with_page c.clear.new.self.page (with_choices (map (map_choice (place_of s)) c.clear_numbers-2.new.self.items) (with_threads (map_threads (place_of s) ts) old))) c.clear_numbers.ensures.threads
    ∙ ap (λ cs. with_page c.clear.new.self.page (with_choices (map (map_choice (place_of s)) cs) (with_threads ts old))) c.clear_numbers-2.ensures.items
    ∙ ap (λ page. with_page page (with_choices cs (with_threads ts old))) c.clear.ensures.page
    ∙ ap (λ ts. with_page empty_page (with_choices cs (with_threads ts old))) (sym (unnumbered_map (place_of s) c.args.self.now.flow.threads.threads))
    ∙ ap (λ cs. with_page empty_page (with_choices cs (with_threads (unnumbered_threads (map_threads (place_of s) c.args.self.now.flow.threads.threads)) old))) (sym (choices_unnumbered_map (place_of s) c.args.self.now.flow.choices.items))

pub clear-requires : goal.clear-requires
clear-requires c =
    let none : output_stood c.args.self.now.output ≡ None = ap (λ (t : Stood). t.page) c.requires.unmarked in
    omega (arith, output_free c.args.self.now.output none)

pub returns-clause-mark : goal.returns-clause-mark
returns-clause-mark c = rw (c.clear_numbers.ensures.stood, c.clear_numbers-2.ensures.stood, c.clear.ensures.stood) c.requires.unmarked
