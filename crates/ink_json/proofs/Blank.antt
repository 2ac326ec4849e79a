-- Objects without members.
use Rattle.std.proofs.Common.{◌≡◌, Some, refl}
use Rattle.serde_json.specs.Data.{Data, null, boolean, number, string, array, object, no_members, member}
use Rattle.json_tape.specs.Value.{is_blank}
use Rattle.ink_model.specs.Story.Grammar.{is_blank_object}

pub blank_is : (d : Data) → is_blank d ≡ is_blank_object (Some d)
blank_is null = refl
blank_is (boolean b) = refl
blank_is (number n) = refl
blank_is (string s) = refl
blank_is (array ds) = refl
blank_is (object no_members) = refl
blank_is (object (member k d ms)) = refl
