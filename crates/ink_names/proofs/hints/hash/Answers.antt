use Rattle.std.proofs.Common.{◌∙◌, arith, length}
use Rattle.ink_names.proofs.Numbers.{hash_of, near_end}
use Rattle.ink_names.proofs.hints.hash.Goals as goal

pub returns-in-len7-up : goal.returns-in-len7-up
returns-in-len7-up c = c.mixed-in-len7-up.ensures

pub returns-in-len6 : goal.returns-in-len6
returns-in-len6 c = c.mixed-in-len6.ensures ∙ hash_of c.args.name.now 6 (omega (arith, c.in-len6.len_at_least, c.in-len6.len_below))

pub returns-in-len5 : goal.returns-in-len5
returns-in-len5 c = c.mixed-in-len5.ensures ∙ hash_of c.args.name.now 5 (omega (arith, c.in-len5.len_at_least, c.in-len5.len_below))

pub returns-in-len4 : goal.returns-in-len4
returns-in-len4 c = c.mixed-in-len4.ensures ∙ hash_of c.args.name.now 4 (omega (arith, c.in-len4.len_at_least, c.in-len4.len_below))

pub returns-in-len3 : goal.returns-in-len3
returns-in-len3 c = c.mixed-in-len3.ensures ∙ hash_of c.args.name.now 3 (omega (arith, c.in-len3.len_at_least, c.in-len3.len_below))

pub returns-in-len2 : goal.returns-in-len2
returns-in-len2 c = c.mixed-in-len2.ensures ∙ hash_of c.args.name.now 2 (omega (arith, c.in-len2.len_at_least, c.in-len2.len_below))

pub returns-in-len1 : goal.returns-in-len1
returns-in-len1 c = c.mixed.ensures ∙ hash_of c.args.name.now 1 (omega (arith, c.in-len1.len_at_least, c.in-len1.len_below))

pub bounds-name-name-6 : goal.bounds-name-name-6
bounds-name-name-6 c = near_end (length c.args.name.now) 0 c.in-len7-up.len_at_least

pub bounds-name-name-5 : goal.bounds-name-name-5
bounds-name-name-5 c = near_end (length c.args.name.now) 1 c.in-len7-up.len_at_least

pub bounds-name-name-4 : goal.bounds-name-name-4
bounds-name-name-4 c = near_end (length c.args.name.now) 2 c.in-len7-up.len_at_least

pub bounds-name-name-3 : goal.bounds-name-name-3
bounds-name-name-3 c = near_end (length c.args.name.now) 3 c.in-len7-up.len_at_least

pub bounds-name-name-2 : goal.bounds-name-name-2
bounds-name-name-2 c = near_end (length c.args.name.now) 4 c.in-len7-up.len_at_least

pub bounds-name-name : goal.bounds-name-name
bounds-name-name c = near_end (length c.args.name.now) 5 c.in-len7-up.len_at_least
