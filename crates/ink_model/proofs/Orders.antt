-- Parts, and places, are in a total order.
use Rattle.std.proofs.Common.{◌≡◌, Ordering, Less, Equal, refl}
use Rattle.std.proofs.lemmas.Cmp.{nat_cmp_total, nat_list_cmp_total, lists_total}
use Rattle.std.specs.Cmp.{IsTotalOrder}
use Rattle.std.specs.Ordering.{ordering_reverse}
use Rattle.ink_model.specs.Variables.Rows.{part_order, place_order}
use Rattle.ink_model.specs.declared.place.Part.{Part}
use Rattle.ink_model.specs.declared.place.Part.TheVariants.{Index, Name}

part_antisymm : (x y : Part) → part_order x y ≡ ordering_reverse (part_order y x)
part_antisymm (Index i) (Index j) = nat_cmp_total.antisymm i j
part_antisymm (Index i) (Name n) = refl
part_antisymm (Name m) (Index j) = refl
part_antisymm (Name m) (Name n) = nat_list_cmp_total.antisymm m n

part_trans : (x y z : Part) → part_order x y ≡ Less → part_order y z ≡ Less → part_order x z ≡ Less
part_trans (Index i) (Index j) (Index k) h g = nat_cmp_total.trans i j k h g
part_trans (Index i) (Index j) (Name n) h g = refl
part_trans (Index i) (Name m) (Index k) h g = absurd cc
part_trans (Index i) (Name m) (Name n) h g = refl
part_trans (Name l) (Index j) z h g = absurd cc
part_trans (Name l) (Name m) (Index k) h g = absurd cc
part_trans (Name l) (Name m) (Name n) h g = nat_list_cmp_total.trans l m n h g

part_congr : (x y z : Part) → part_order x y ≡ Equal → part_order x z ≡ part_order y z
part_congr (Index i) (Index j) (Index k) h = nat_cmp_total.congr i j k h
part_congr (Index i) (Index j) (Name n) h = refl
part_congr (Index i) (Name m) z h = absurd cc
part_congr (Name l) (Index j) z h = absurd cc
part_congr (Name l) (Name m) (Index k) h = refl
part_congr (Name l) (Name m) (Name n) h = nat_list_cmp_total.congr l m n h

pub part_total : IsTotalOrder part_order
part_total = record { antisymm = part_antisymm; trans = part_trans; congr = part_congr }

pub place_total : IsTotalOrder place_order
place_total = lists_total part_total
