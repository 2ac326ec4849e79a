use Rattle.std.proofs.Common.{Some, ap, sym, ◌∙◌}
use Rattle.ink_out.proofs.Standing.{more_same}
use Rattle.ink_out.proofs.state.State.add.Goals as goal

pub returns-in_default : goal.returns-in_default
returns-in_default c before settled at knows st = record {
  tracks = c.add.ensures before settled at knows st.tracks;
  more = rw (← c.mark.view_is) (st.more ∙ sym (more_same c.mark.inside.form before c.in_default.not-Text c.in_default.not-Part c.in_default.not-Tag));
}

pub returns-in-Text : goal.returns-in-Text
returns-in-Text c before settled at knows st = record {
  tracks = c.add.ensures before settled at knows st.tracks;
  more = rw (← c.mark.view_is, c.in-Text.is) (ap Some at);
}

pub returns-in-Part : goal.returns-in-Part
returns-in-Part c before settled at knows st = record {
  tracks = c.add.ensures before settled at knows st.tracks;
  more = rw (← c.mark.view_is, c.in-Part.is) (ap Some at);
}

pub returns-in-Tag : goal.returns-in-Tag
returns-in-Tag c before settled at knows st = record {
  tracks = c.add.ensures before settled at knows st.tracks;
  more = rw (← c.mark.view_is, c.in-Tag.is) (ap Some at);
}
