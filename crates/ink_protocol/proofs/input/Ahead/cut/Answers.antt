use Rattle.std.proofs.Common.{◌≡◌, Err, length, rules, take, ap, arith}
use Rattle.std.proofs.lemmas.List.{take_all}
use Rattle.ink_protocol.proofs.Reading.{as_slice, cuts_all, cuts_before, cuts_newline, newline_left}
use Rattle.ink_protocol.proofs.input.Ahead.cut.Goals as goal

pub returns-in_err-give-in-None : goal.returns-in_err-give-in-None
returns-in_err-give-in-None c =
    let a = c.self.inside in
    let same = as_slice a.chunk _ a.at a.end (omega arith) (ap (λ v. v.unread) c.self.view_is) in
    let end = c.in_err-give-in-None.ensures in
    let is : c.from_residual-in_err-give-in-None.result ≡ Err c.in_err-give-in-None.field-0.0 = search rules in
    rw is (take c.len.result c.args.self.now.unread, cuts_all _ _ _ c.len.result same c.in-None.ensures c.len.ensures end.bytes end.count, end.line)

pub returns-in_ok-give-in-Some : goal.returns-in_ok-give-in-Some
returns-in_ok-give-in-Some c =
    let a = c.self.inside in
    let same = as_slice a.chunk _ a.at a.end (omega arith) (ap (λ v. v.unread) c.self.view_is) in
    let end = c.in_ok-give-in-Some.ensures in
    (take c.in-Some.count c.args.self.now.unread, cuts_newline _ _ _ _ c.in-Some.count same c.in-Some.ensures end.bytes end.count c.skip.ensures.bytes c.skip.ensures.count, end.line)

pub returns-in_ok-give-in-None : goal.returns-in_ok-give-in-None
returns-in_ok-give-in-None c =
    let a = c.self.inside in
    let same = as_slice a.chunk _ a.at a.end (omega arith) (ap (λ v. v.unread) c.self.view_is) in
    let end = c.in_ok-give-in-None.ensures in
    let whole : take c.len.result c.args.self.now.unread ≡ c.args.self.now.unread = take_all _ _ (omega (arith, c.len.ensures)) in (
      take c.len.result c.args.self.now.unread,
      cuts_all _ _ _ c.len.result same c.in-None.ensures c.len.ensures end.bytes end.count,
      omega (arith, ap length whole, c.requires.some),
      end.line,
    )

pub returns-in_err-give-in-Some : goal.returns-in_err-give-in-Some
returns-in_err-give-in-Some c =
    let a = c.self.inside in
    let same = as_slice a.chunk _ a.at a.end (omega arith) (ap (λ v. v.unread) c.self.view_is) in
    let end = c.in_err-give-in-Some.ensures in
    let is : c.from_residual.result ≡ Err c.in_err-give-in-Some.field-0.0 = search rules in
    rw is (take c.in-Some.count c.args.self.now.unread, cuts_before _ _ _ c.in-Some.count same c.in-Some.ensures end.bytes end.count, end.line)

pub skip-requires-clause-some : goal.skip-requires-clause-some
skip-requires-clause-some c =
    let a = c.self.inside in
    let same = as_slice a.chunk _ a.at a.end (omega arith) (ap (λ v. v.unread) c.self.view_is) in
    newline_left c.in-Some.count _ _ _ same c.in-Some.ensures c.in_ok-give-in-Some.ensures.bytes
