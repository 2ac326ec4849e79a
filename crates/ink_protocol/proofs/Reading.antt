-- Taking bytes of what was read ahead.
use Rattle.std.proofs.Common.{◌≡◌, ℕ, ◌+◌, ◌-◌, ◌<◌, ◌≤◌, max, List, [], ◌∷◌, ◌++◌, length, take, drop, get_or, suc, Bool, true, false, ◌||◌, ◌==◌, Option, Some, None, MatchOption, Ok, Err, ap, ◌∙◌, sym, refl, subst, inl, arith, append_assoc, append-nil, length-append, length-take, take-append-drop}
use Rattle.std.proofs.Math.Seq.{drop-cons}
use Rattle.std.proofs.lemmas.Bool.{eqb-true}
use Rattle.std.proofs.lemmas.List.{drop-take, get_or-take, take_all}
use Rattle.std.proofs.lemmas.List.Folds.{list_any-append}
use Rattle.memchr.specs.Find.{IsFirstByte, is_byte}
use Rattle.std.proofs.KnownBytes.{Consumes-nil, Consumes-trans}
use Rattle.ink_model.specs.Text.Bytes.{has_newline, is_newline}
use Rattle.ink_protocol.specs.Buffered.{Buffered}
use Rattle.ink_protocol.specs.Input.{Takes, CutsOff, Extends, IsNewlineAt}
use Rattle.ink_protocol.specs.Lines.{TakesLine, LineLacksMemory, GivesLine}
use Rattle.ink_protocol.specs.Spelled.{HasRoom}
use Rattle.ink_protocol.specs.declared.fault.RunFault.{RunFault}
use Rattle.ink_protocol.specs.declared.fault.RunFault.TheVariants as fault

-- what was read and not yet taken, as a slice of the chunk
pub as_slice : (chunk unread : List ℕ) (at end : ℕ) → at ≤ end → drop at (take end chunk) ≡ unread → take (end - at) (drop at chunk) ≡ unread
as_slice chunk unread at end h e =
    let whole : at + (end - at) ≡ end = omega arith in
    sym (drop-take at (end - at) chunk) ∙ ap (λ n. drop at (take n chunk)) whole ∙ e

pub takes_trans : (a b c : Option (List ℕ)) (o m n : Buffered) (x y : List ℕ) → Takes a b o m x → Takes b c m n y → Takes a c o n (x ++ y)
takes_trans a b c o m n x y t u = record {
  got = t.got ++ u.got;
  consumed = Consumes-trans a b c t.got u.got t.consumed u.consumed;
  bytes = sym (append_assoc o.unread t.got u.got) ∙ ap (λ l. l ++ u.got) t.bytes ∙ append_assoc x m.unread u.got ∙ ap (λ l. x ++ l) u.bytes ∙ sym (append_assoc x y n.unread);
  count = omega (arith, t.count, u.count, length-append x y);
}

-- ---- a line, piece for piece

pub neither : (a b : Bool) → (a || b) ≡ false → (a ≡ false) × (b ≡ false)
neither true b h = cc
neither false b h = (refl, h)

pub or_false : (a b : Bool) → a ≡ false → b ≡ false → (a || b) ≡ false
or_false a b e h = ap (λ x. x || b) e ∙ h

plain_both : (line piece : List ℕ) → has_newline line ≡ false → has_newline piece ≡ false → has_newline (line ++ piece) ≡ false
plain_both line piece h k = list_any-append is_newline line piece ∙ or_false _ _ h k

-- a line within its limit was taken, and then a piece of what was read
module _ (a b c : Option (List ℕ)) (o m k : Buffered) (limit : ℕ) (line : List ℕ) (t : TakesLine a b o m limit line line) (within : length line ≤ limit)
    (u : Takes b c m k []) (room : length k.unread ≤ max (length m.unread) (max (limit - length line) 1)) where
  -- nothing more was taken
  pub stays : TakesLine a c o k (limit + 1) line line
  stays = record {
    takes = subst (Takes a c o k) (append-nil line) (takes_trans a b c o m k line [] t.takes u);
    room = omega (arith, t.room);
    plain = t.plain;
  }

  module _ (n : Buffered) (piece : List ℕ) where
    goes : (most : ℕ) (taken after : List ℕ) → CutsOff k n piece taken → 0 < length taken → limit ≤ most → length line < most → has_newline after ≡ false → TakesLine a c o n most (line ++ taken) after
    goes most taken after cut some less more plain = record {
      takes = takes_trans a c c o k n line taken (subst (Takes a c o k) (append-nil line) (takes_trans a b c o m k line [] t.takes u))
          (record { got = []; consumed = Consumes-nil c; bytes = append-nil k.unread ∙ cut.bytes; count = cut.count });
      room = omega (arith, t.room, length-append line taken, ap length cut.bytes, length-append taken n.unread);
      plain = plain;
    }

    goes_on : (most : ℕ) → CutsOff k n piece piece → 0 < length piece → limit ≤ most → length line < most → TakesLine a c o n most (line ++ piece) (line ++ piece)
    goes_on most cut some less more = goes most piece (line ++ piece) cut some less more (plain_both line piece t.plain cut.plain)

    pub goes_whole : (after : List ℕ) → CutsOff k n piece (piece ++ 10 ∷ []) → Extends line piece limit after (Ok tt)
        → TakesLine a c o n (limit + 1) (after ++ 10 ∷ []) after × (length after ≤ limit)
    goes_whole after cut e =
        let taken : TakesLine a c o n (limit + 1) (line ++ (piece ++ 10 ∷ [])) (line ++ piece) =
        goes (limit + 1) (piece ++ 10 ∷ []) (line ++ piece) cut (omega (arith, length-append piece (10 ∷ []))) (omega arith) (omega arith) (plain_both line piece t.plain cut.plain) in (
          subst (λ l. TakesLine a c o n (limit + 1) (l ++ 10 ∷ []) l) (sym e.0) (subst (λ l. TakesLine a c o n (limit + 1) l (line ++ piece)) (sym (append_assoc line piece (10 ∷ []))) taken),
          e.1 within,
        )

    pub goes_further : (after : List ℕ) → CutsOff k n piece piece → 0 < length piece → Extends line piece limit after (Ok tt) → TakesLine a c o n limit after after × (length after ≤ limit)
    goes_further after cut some e =
        let less : length line < limit = omega (arith, e.1 within, ap length e.0, length-append line piece) in
        (subst (λ l. TakesLine a c o n limit l l) (sym e.0) (goes_on limit cut some (omega arith) less), e.1 within)

    -- the line is longer than the limit, or memory was refused
    pub not_cut : (after : List ℕ) (f : RunFault) → length k.unread ≤ k.spare → CutsOff k n piece piece → Extends line piece limit after (Err f) → GivesLine a c o n limit (Err f)
    not_cut after fault.Read fits cut p = absurd p
    not_cut after fault.Write fits cut p = absurd p
    not_cut after fault.TooLong fits cut p =
        (record { part = line ++ piece; takes = goes_on (limit + 1) cut (omega arith) (omega arith) (omega arith) }, inl (omega (arith, length-append line piece)))
    not_cut after fault.OutOfMemory fits cut p = record {
      part = line ++ piece;
      takes = goes_on limit cut p.1 (omega arith) (omega (arith, p.0));
      some = omega (arith, p.1, length-append line piece);
      within = omega (arith, cut.count, ap length cut.bytes, length-append piece n.unread);
    }

-- memory was refused for a byte of a line: there is a byte, and no more was read than the line and the input may have
room_first : (limit most : ℕ) (part unread : List ℕ) → 0 < length part → has_newline part ≡ false → length (part ++ unread) ≤ limit → length (part ++ unread) ≤ most
    → HasRoom limit most (part ++ unread) (part ++ unread)
room_first limit most [] unread some plain in_line in_input = let no : ⊥ = omega arith in absurd no
room_first limit most (c ∷ cs) unread some plain in_line in_input = record {
  byte = c;
  more = cs ++ unread;
  whole = refl;
  plain = (neither (is_newline c) (has_newline cs) plain).0;
  in_line = in_line;
  in_input = in_input;
}

pub has_room : (a b : Option (List ℕ)) (o n : Buffered) (limit : ℕ) → length o.unread ≤ limit → (m : LineLacksMemory a b o n limit) → HasRoom limit o.spare (m.part ++ n.unread) (m.part ++ n.unread)
has_room a b o n limit few m =
    room_first limit o.spare m.part n.unread m.some m.takes.plain (omega (arith, m.takes.room, length-append m.part n.unread))
    (omega (arith, m.takes.takes.count, m.within, length-append m.part n.unread))

pub none_unread : (unread : List ℕ) → length unread ≡ 0 → unread ≡ []
none_unread [] h = refl
none_unread (byte ∷ bytes) h = let no : ⊥ = omega arith in absurd no

-- ---- the first newline

not_true : (b : Bool) → (b ≡ true → ⊥) → b ≡ false
not_true true h = absurd (h refl)
not_true false h = refl

none_there : (xs : List ℕ) → ((k : ℕ) → k < length xs → (get_or xs k 0 == 10) ≡ true → ⊥) → has_newline xs ≡ false
none_there [] h = refl
none_there (x ∷ xs) h = or_false _ _ (not_true (x == 10) (h 0 (omega arith))) (none_there xs (λ k l. h (suc k) (omega arith)))

pub newline_found : (xs : List ℕ) (r : Option ℕ) → IsFirstByte (is_byte 10) xs r → MatchOption r (has_newline xs ≡ false) (IsNewlineAt xs)
newline_found xs None h = none_there xs (λ k l. h k (omega arith) l)
newline_found xs (Some n) h =
    let within : n < length xs = h.0.high in
    let next : suc n ≡ n + 1 = omega arith in (
      none_there (take n xs) (λ k l e. let low : k < n = omega (arith, length-take n xs) in h.0.before k (omega arith) low (ap (λ x. x == 10) (sym (get_or-take n xs k 0 low)) ∙ e)),
      drop-cons xs n 0 within ∙ ap (λ x. x ∷ drop (suc n) xs) (eqb-true _ 10 h.1) ∙ ap (λ i. 10 ∷ drop i xs) next,
      within,
    )

-- ---- what is cut off at a newline

pub cuts_off : (old new : Buffered) (bytes : List ℕ) (n : ℕ) → bytes ≡ old.unread → has_newline (take n bytes) ≡ false → n ≤ length old.unread → new.unread ≡ drop n old.unread → new.spare + n ≡ old.spare
    → CutsOff old new (take n old.unread) (take n old.unread)
cuts_off old new bytes n same plain within rest count = record {
  bytes = sym (take-append-drop n old.unread) ∙ ap (λ l. take n old.unread ++ l) (sym rest);
  count = omega (arith, count, length-take n old.unread);
  plain = ap (λ l. has_newline (take n l)) (sym same) ∙ plain;
}

pub cuts_all : (old new : Buffered) (bytes : List ℕ) (n : ℕ) → bytes ≡ old.unread → has_newline bytes ≡ false → n ≡ length old.unread → new.unread ≡ drop n old.unread → new.spare + n ≡ old.spare
    → CutsOff old new (take n old.unread) (take n old.unread)
cuts_all old new bytes n same plain all rest count =
    cuts_off old new bytes n same (ap has_newline (take_all n bytes (omega (arith, all, ap length same))) ∙ plain) (omega (arith, all)) rest count

pub cuts_newline : (old mid new : Buffered) (bytes : List ℕ) (n : ℕ) → bytes ≡ old.unread → IsNewlineAt bytes n → mid.unread ≡ drop n old.unread → mid.spare + n ≡ old.spare
    → new.unread ≡ drop 1 mid.unread → new.spare + 1 ≡ mid.spare → CutsOff old new (take n old.unread) (take n old.unread ++ 10 ∷ [])
cuts_newline old mid new bytes n same is rest count last one =
    let within : n < length old.unread = subst (λ l. n < length l) same is.2 in
    let newline : drop n old.unread ≡ 10 ∷ drop (n + 1) old.unread = subst (λ l. drop n l ≡ 10 ∷ drop (n + 1) l) same is.1 in
    record {
      bytes = sym (take-append-drop n old.unread) ∙ ap (λ l. take n old.unread ++ l) (newline ∙ ap (λ l. 10 ∷ l) (sym (last ∙ ap (drop 1) (rest ∙ newline))))
          ∙ sym (append_assoc (take n old.unread) (10 ∷ []) new.unread);
      count = omega (arith, count, one, length-take n old.unread, length-append (take n old.unread) (10 ∷ []));
      plain = ap (λ l. has_newline (take n l)) (sym same) ∙ is.0;
    }

-- the newline itself is left
pub newline_left : (n : ℕ) (bytes unread rest : List ℕ) → bytes ≡ unread → IsNewlineAt bytes n → rest ≡ drop n unread → 0 < length rest
newline_left n bytes unread rest same is left =
    let newline : drop n unread ≡ 10 ∷ drop (n + 1) unread = subst (λ l. drop n l ≡ 10 ∷ drop (n + 1) l) same is.1 in
    omega (arith, ap length (left ∙ newline))

-- all before the newline
pub cuts_before : (old new : Buffered) (bytes : List ℕ) (n : ℕ) → bytes ≡ old.unread → IsNewlineAt bytes n → new.unread ≡ drop n old.unread → new.spare + n ≡ old.spare
    → CutsOff old new (take n old.unread) (take n old.unread)
cuts_before old new bytes n same is rest count = cuts_off old new bytes n same is.0 (omega (arith, is.2, ap length same)) rest count
