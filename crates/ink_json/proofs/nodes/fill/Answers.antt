use Rattle.ink_json.proofs.Keeping.{filled_in, left_alone}
use Rattle.ink_json.proofs.nodes.fill.Goals as goal

pub returns-in-Container : goal.returns-in-Container
returns-in-Container c =
    filled_in c.index_mut.result.now c.in-Container.container c.args.width c.args.keys c.args.size c.args.number c.args.list.now.items c.index_mut.ensures.value c.in-Container.is

pub returns-in_default : goal.returns-in_default
returns-in_default c = left_alone c.index_mut.result.now c.in_default.field-0 c.args.width c.args.keys c.args.size c.args.number c.args.list.now.items c.index_mut.ensures.value c.in_default.is
