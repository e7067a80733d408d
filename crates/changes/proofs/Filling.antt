-- Change rows as plain words: rows joined and left out, the next row, and the rows filled one by one. Assumes nothing.
use Prim.Native.Nat.{ℕ, zero, suc, ◌+◌, ◌*◌, ◌/◌, ◌≤◌, ◌<◌}
use mathlib.Core.Bool.{Bool}
use mathlib.Core.List.{List, [], ◌∷◌, ◌++◌}
use mathlib.Core.Path.{◌≡◌, refl, sym, ap, subst, ◌∙◌}
use native.Mathlib.Omega.{arith}
use lib.IntN.{ℤ}
use mir.Syntax.{w32}
use mir.Val.{bool_byte, Fits as FitsIn}
use lib.ListN.{length, get_or, set, take, drop}
use lib.Seq.{sets-eq, take-length}
use Rattle.std.proofs.lemmas.List.{length-take-le, take_more_set}
use Rattle.std.specs.Prelude.{Option, Some, Ok, Err}
use Rattle.base.specs.declared.DocNo.{DocNo}
use Rattle.base.specs.declared.Refusal.{Refusal}
use Rattle.rules.specs.Rows.{doc_at, flag}
use Rattle.rules.specs.Steps.{visible_at}
use Rattle.rules.specs.Words.{put, table_of, rows_of}
use Rattle.rules.specs.Calls.{Call, outcome}
use Rattle.laws.proofs.Words.{next-frame-in}
use Rattle.traverses.specs.declared.Change.{Change}
use Rattle.traverses.specs.Answers.{traversed_is}
use Rattle.traverses.specs.Texts.{FirstChange, NextChange}
use Rattle.rows.specs.Readable.{readable_rows}
use Rattle.traverses.proofs.Texts.{none-before, text-whole, climbed}
use Rattle.changes.specs.declared.ChangeRow.{ChangeRow}
use Rattle.changes.specs.declared.Route.{Route}
use Rattle.changes.specs.Changes.{row_text, plain, Awaits, Follows, read_in, route_text, route_below, AwaitsOn, FollowsOn, Fits, Routed, Routes}

-- ROWS AND WORDS

pub length-plain : (rows : List ChangeRow) → length (plain rows) ≡ 4 * length rows
unfolding plain
length-plain [] = refl
length-plain (r ∷ rows) = omega (arith, length-plain rows)

pub plain-append : (xs ys : List ChangeRow) → plain (xs ++ ys) ≡ plain xs ++ plain ys
unfolding plain
plain-append [] ys = refl
plain-append (x ∷ xs) ys = let e = plain-append xs ys in cc

pub plain-drop : (n : ℕ) (rows : List ChangeRow) → drop (4 * n) (plain rows) ≡ plain (drop n rows)
unfolding plain
plain-drop zero rows = refl
plain-drop (suc n) [] = let e : 4 * suc n ≡ suc (suc (suc (suc (4 * n)))) = omega arith in rw e refl
plain-drop (suc n) (r ∷ rows) = let e : 4 * suc n ≡ suc (suc (suc (suc (4 * n)))) = omega arith in rw e (plain-drop n rows)

-- Rows with the same words are the same.
pub plain-same : (rows rows' : List ChangeRow) → plain rows ≡ plain rows' → rows ≡ rows'
unfolding plain
plain-same [] [] e = refl
plain-same [] (r ∷ rows') e = absurd (let z : ◌≡◌ {A = ℕ} 0 1 = cc in omega arith)
plain-same (r ∷ rows) [] e = absurd (let z : ◌≡◌ {A = ℕ} 0 1 = cc in omega arith)
plain-same (r ∷ rows) (s ∷ rows') e =
    let a : r.frame.0 ≡ s.frame.0 = cc in
    let b : r.before.0 ≡ s.before.0 = cc in
    let c : r.after.0 ≡ s.after.0 = cc in
    let d : r.load ≡ s.load = cc in
    let f : plain rows ≡ plain rows' = cc in
    ap (λ l. r ∷ l) (plain-same rows rows' f)
    ∙ ap (λ n. record { frame = record { 0 = n }; before = r.before; after = r.after; load = r.load } ∷ rows') a
    ∙ ap (λ n. record { frame = s.frame; before = record { 0 = n }; after = r.after; load = r.load } ∷ rows') b
    ∙ ap (λ n. record { frame = s.frame; before = s.before; after = record { 0 = n }; load = r.load } ∷ rows') c
    ∙ ap (λ n. record { frame = s.frame; before = s.before; after = s.after; load = n } ∷ rows') d

-- THE NEXT ROW

module _ (words : List ℕ) (a b from : ℕ) (h : Awaits words a b from) where
  module _ (o : Option Change) (n : NextChange (table_of words) a b from o) (c : Change) (is : o ≡ Some c) where
    row-first : FirstChange (table_of words) a b from c
    row-first = subst (NextChange (table_of words) a b from) is n

    -- The row that is made of what is read.
    pub row_made : (old new : DocNo) (seen : Bool) (v : ℕ) → old.0 ≡ doc_at (rows_of words) c.old.0 → new.0 ≡ doc_at (rows_of words) c.new.0 → seen ≡ visible_at (readable_rows words) c.new.0 → v ≡ bool_byte seen →
        FitsIn w32 (get_or words 2 0) → Follows words a b from (record { frame = c.frame; before = old; after = new; load = v })
    row_made old new seen v e f g l w =
        let k : v ≡ flag (visible_at (rows_of words) c.new.0) = l ∙ climbed _ _ _ h.ready.fits g in
        let b = row-first.within in
        record {
          below = b;
          small = omega (arith, w, next-frame-in words);
          more = row-first.more ∙ rw (e, f, k) refl;
        }

-- THE LOOP

-- The first i of these rows are filled, with the route's change rows of the frames numbered below f.
pub record Filled (words : List ℕ) (route : Route) (rows : List ChangeRow) (i f : ℕ) : Type 0 where
  pub within : f ≤ (table_of (read_in words route)).next_frame
  pub filled : plain (take i rows) ≡ route_below words route f

module _ (words : List ℕ) (route : Route) (room : ℕ) (h : Fits words route room) (rows : List ChangeRow) where
  pub filled-starts : Filled words route rows 0 route.trip.first.0
  unfolding plain
  filled-starts =
      let x = h.arrived.foremost in
      record { within = x.0.within; filled = sym (none-before (table_of (read_in words route)) route.trip.span.before.0 route.trip.span.after.0 route.trip.first.0 x) }

  module _ (i f : ℕ) (s : Filled words route rows i f) (all : length rows ≡ route.trip.count) where
    size : i ≤ length rows → 4 * i ≡ length (route_below words route f)
    size l = omega (arith, length-plain (take i rows), length-take-le i rows l, ap length s.filled)

    pub filled-awaits : i < length rows → AwaitsOn words route f
    filled-awaits l =
        let z = h.arrived.sized in
        let y = size (omega arith) in
        record { examined = h.examined; awaits = record { ready = h.arrived.ready; upto = s.within; some = omega arith } }

    pub filled_more : (r : ChangeRow) → i < length rows → FollowsOn words route f r → Filled words route (set rows i r) (i + 1) (r.frame.0 + 1)
    unfolding plain
    filled_more r l x =
        let b = x.below in
        record { within = omega arith; filled = ap plain (take_more_set rows i r l) ∙ plain-append (take i rows) (r ∷ []) ∙ ap (λ t. t ++ row_text r) s.filled ∙ sym x.more }

    pub filled-ends : i ≡ length rows → (old : List ChangeRow) → room ≡ length old → plain (rows ++ drop route.trip.count old) ≡ put (plain old) 0 (route_text words route)
    unfolding put
    filled-ends e old q =
        let z = h.arrived.sized in
        let y = size (omega arith) in
        let l = length-plain old in
        let fits = h.arrived.fits in
        let n = route.trip.count in
        let text = route_text words route in
        let read = read_in words route in
        let whole : plain rows ≡ text =
        ap plain (sym (take-length rows) ∙ ap (λ k. take k rows) (sym e)) ∙ s.filled
        ∙ text-whole (rows_of read) route.trip.span.before.0 route.trip.span.after.0 (table_of read).next_frame f s.within (omega arith) in
        let v : 4 * n ≡ 0 + length text = omega arith in
        plain-append rows (drop n old) ∙ ap (λ t. t ++ plain (drop n old)) whole ∙ ap (λ t. text ++ t) (sym (plain-drop n old)) ∙ ap (λ k. text ++ drop k (plain old)) v ∙ sym (sets-eq text (plain old) 0 (omega arith))

-- THE CALLER

module _ (words words' : List ℕ) (root : ℕ) (δ : ℤ) (rows : List ChangeRow) where
  lent-room : length (plain rows) / 4 ≡ length rows
  lent-room = let l = length-plain rows in omega arith

  pub traverse-stayed : (why : Refusal) → Routes words root δ (length rows) (Err why) words' → outcome (Call.Traverse words root δ (plain rows)) ≡ record { answer = traversed_is (Err why); lent = words' ∷ plain rows ∷ [] }
  traverse-stayed why h = h (plain rows) lent-room

  pub traverse-went : (route : Route) → Routed words root δ (length rows) route words' → (rows' : List ChangeRow) → plain rows' ≡ put (plain rows) 0 (route_text words' route) →
      outcome (Call.Traverse words root δ (plain rows)) ≡ record { answer = traversed_is (Ok route.trip.count); lent = words' ∷ plain rows' ∷ [] }
  traverse-went route h rows' f = h.outcome-is (plain rows) lent-room ∙ rw f refl
