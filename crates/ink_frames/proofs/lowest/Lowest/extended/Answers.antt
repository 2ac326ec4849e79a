use Rattle.std.proofs.Common.{◌≡◌, ◌∙◌, ◌++◌, ◌+◌, false, ap, arith, length, map, take}
use Rattle.std.proofs.lemmas.List.{length-take-le}
use Rattle.ink_frames.specs.Frames.{as_seen, items_of}
use Rattle.ink_frames.proofs.Bounding.{all_there, first_fit, others_fit}
use Rattle.ink_frames.proofs.Sharing.{more_seen}
use Rattle.ink_frames.proofs.lowest.Lowest.extended.Goals as goal

pub returns : goal.returns
returns g c =
    let b = c.self.inside.unnumbered in
    let kept = items_of c.self.inside.shared in
    let hs = take c.self.inside.count kept in
    let more = c.args.more.now in
    let all = c.push_all-2.new.headers.items in
    let first : c.push_all.new.headers.items ≡ map (as_seen b) hs = c.push_all.ensures.items ∙ ap (λ xs. xs ++ map (as_seen b) c.first.result.now) c.in_ok-all.ensures.items ∙ ap (map (as_seen b)) c.first.ensures in
    let whole : all ≡ map (as_seen b) hs ++ map (as_seen false) more = c.push_all-2.ensures.items ∙ ap (λ xs. xs ++ map (as_seen false) more) first in
    let many : c.in-Some.count ≡ length hs + length more = omega (arith, c.in-Some.ensures, length-take-le c.self.inside.count kept c.self.invariant) in
    rw (← c.self.view_is) (ap (λ v. map (as_seen false) (take c.in-Some.count v.items)) c.in_ok-new.ensures ∙ more_seen b hs more all c.in-Some.count whole many)

pub push_all-requires : goal.push_all-requires
push_all-requires g c =
    first_fit c.in_ok-all.all (items_of c.self.inside.shared) _ c.self.inside.count _ _ c.in_ok-all.ensures.items c.first.ensures c.self.invariant c.in-Some.ensures.1 c.in_ok-all.ensures.capacity

pub push_all-requires-2 : goal.push_all-requires-2
push_all-requires-2 g c =
    others_fit c.in_ok-all.all c.push_all.new.headers (as_seen c.self.inside.unnumbered) (items_of c.self.inside.shared) _ c.self.inside.count _ _ c.in_ok-all.ensures.items c.first.ensures c.self.invariant c.in-Some.ensures.1
    c.in_ok-all.ensures.capacity c.push_all.ensures.items c.push_all.ensures.room

pub invariant_of-result : goal.invariant_of-result
invariant_of-result g c =
    let b = c.self.inside.unnumbered in
    let kept = items_of c.self.inside.shared in
    let pushed = c.push_all.ensures.items ∙ ap (λ xs. xs ++ map (as_seen b) c.first.result.now) c.in_ok-all.ensures.items in
    let there : length c.push_all-2.new.headers.items ≡ c.in-Some.count =
    all_there (as_seen b) (as_seen false) kept c.first.result.now c.push_all.new.headers.items c.args.more.now _ c.self.inside.count _ c.first.ensures c.self.invariant pushed c.push_all-2.ensures.items c.in-Some.ensures.1 in
    omega (arith, there, ap (λ v. length v.items) c.in_ok-new.ensures)
