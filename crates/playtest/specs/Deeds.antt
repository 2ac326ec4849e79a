-- What the functions of the tables answer.
use Rattle.std.specs.Prelude.{Option, Some, None}
use Rattle.ink_model.specs.declared.host.Given.{Given}
use Rattle.playtest.specs.declared.objects.Deed.{Deed}
use Rattle.playtest.specs.declared.objects.Deed.TheVariants as deed

-- what a deed gives, if it gives anything
abbrev pub given_by : Deed → Option Given
given_by (deed.Gives given) = Some given
given_by deed.Refuses = None
given_by deed.FindsNoMemory = None
