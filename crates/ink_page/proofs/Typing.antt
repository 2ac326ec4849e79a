-- A choice's number, in a line of a session and in one that a reader types.
use Rattle.std.proofs.Common.{◌≡◌, refl, ℕ, List, length, Bool, true, false, not, ◌&&◌, ◌||◌, nat_le, if◌then◌else◌, Option, None, Some, option_map}
use Rattle.std.specs.List.{list_all}
use Rattle.ink_model.specs.Text.Bytes.{is_digit, is_filled, number_from}
use Rattle.ink_model.specs.Protocol.Command as command
use Rattle.ink_page.specs.Typed.{Asked, Choice, Unclear, choice_in}

abbrev pub numbered : Option ℕ → Asked
numbered (Some number) = Choice number
numbered None = Unclear

pub as_in_lines : (text : List ℕ) (o : Option ℕ) → option_map command.Choose o ≡ command.choose_command text → numbered o ≡ choice_in text
as_in_lines text o h = by (is_filled text) (nat_le (length text) 9) (list_all is_digit text) (number_from 0 text) o h
  where
    by : (filled few digits : Bool) (n : ℕ) (o : Option ℕ) → option_map command.Choose o ≡ (if filled && (digits && few) then Some (command.Choose n) else None)
        → numbered o ≡ (if not filled || (not few || not digits) then Unclear else Choice n)
    by true true true n (Some k) h = let is : Some (command.Choose k) ≡ Some (command.Choose n) = h in cc
    by true true true n None h = absurd (cc)
    by true true false n None h = refl
    by true true false n (Some k) h = absurd (cc)
    by true false true n None h = refl
    by true false true n (Some k) h = absurd (cc)
    by true false false n None h = refl
    by true false false n (Some k) h = absurd (cc)
    by false few digits n None h = refl
    by false few digits n (Some k) h = absurd (cc)
