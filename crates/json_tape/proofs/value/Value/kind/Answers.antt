use Rattle.json_tape.proofs.Common.{num, items_left, json_data}
use Rattle.json_tape.proofs.Sorts.{is_array, is_bool, is_null, is_number, is_string, no_object}
use Rattle.json_tape.proofs.value.Value.kind.Goals as goal

pub returns-in-Some : goal.returns-in-Some
returns-in-Some c = is_string (json_data c.args.self.now) c.in-Some.text.now c.in-Some.ensures

pub returns-in-Some-items : goal.returns-in-Some-items
returns-in-Some-items c = is_array (json_data c.args.self.now) (items_left c.in-Some-items.items) c.in-Some-items.ensures

pub returns-in-Some-as_number : goal.returns-in-Some-as_number
returns-in-Some-as_number c = is_number (json_data c.args.self.now) (num c.in-Some-as_number.number) c.in-Some-as_number.ensures

pub returns-in-Some-as_bool : goal.returns-in-Some-as_bool
returns-in-Some-as_bool c = is_bool (json_data c.args.self.now) c.in-Some-as_bool.truth c.in-Some-as_bool.ensures

pub returns-in_default-as_bool : goal.returns-in_default-as_bool
returns-in_default-as_bool c =
    is_null (json_data c.args.self.now) c.in_default.ensures c.in_default-items.ensures (no_object _ c.if-is_object.ensures) c.in_default-as_number.ensures c.in_default-as_bool.ensures
