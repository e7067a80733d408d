-- No document below n is new after a row more with another, after other flags, a removal or a new number. Assumes nothing.
use Prim.Native.Nat.{ℕ, ◌≤◌, ◌<◌}
use mathlib.Core.Bool.{Bool, So}
use mathlib.Core.List.{List, [], ◌∷◌, ◌++◌}
use mathlib.Core.Logic.{⊎_elim}
use mathlib.Core.Path.{◌≡◌, sym, ap, ap₂, ◌∙◌, subst}
use native.Mathlib.Omega.{arith}
use lib.Dec.{eqb}
use lib.ListN.{length}
use Rattle.rules.specs.Below.{some_below}
use Rattle.rules.specs.Rows.{Row, row_at, doc_at, parent_at, is_doc, in_record, with_flags}
use Rattle.rules.specs.Moves.{without, renamed}
use Rattle.laws.proofs.Tests.{test, below-cases}
use Rattle.laws.proofs.Flags.{flags-length, flags-doc}
use Rattle.laws.proofs.Append.{length-snoc, snoc_old, snoc_new}
use Rattle.laws.proofs.Kept.{kept}
use Rattle.laws.proofs.Tree.{TreeOf, came}
use Rattle.laws.proofs.Reflect.{record_is}
use Rattle.laws.proofs.Removal.{stays, stays_up}
use Rattle.laws.proofs.Replace.{renamed-length, renamed-doc}

-- The documents below n of these rows are all among those.
abbrev pub From : ℕ → List Row → List Row → Type 0
From n rows to = (d : ℕ) → d < n → So (in_record to d) → So (in_record rows d)

pub from-append : (n : ℕ) (rows : List Row) (r : Row) → n ≤ r.doc → From n rows (rows ++ r ∷ [])
from-append n rows r new d l h =
    let all = rows ++ r ∷ [] in
    let o = (record_is all d).0 h in
    ⊎_elim
    (λ e. absurd (let z : r.doc ≡ d = ap (λ x. x.doc) (sym (ap (row_at all) e ∙ snoc_new rows r)) ∙ o.2 in omega arith))
    (λ m. (record_is rows d).1 (o.0, m, ap (λ x. x.doc) (sym (snoc_old rows r o.0 m)) ∙ o.2))
    (below-cases (subst (λ k. o.0 < k) (length-snoc rows r) o.1))

-- Flags do not change which documents there are.
pub flags-record : (f : ℕ → Bool) (rows : List Row) (d : ℕ) → in_record (with_flags f rows) d ≡ in_record rows d
unfolding in_record
flags-record f rows d = ap₂ (λ n g. some_below n (λ i. eqb (g i) d)) (flags-length f rows) (flags-doc f rows)

pub from-flags : (n : ℕ) (f : ℕ → Bool) (rows : List Row) → From n rows (with_flags f rows)
from-flags n f rows d l h = sym (flags-record f rows d) ∙ h

pub from-kept : (n : ℕ) (keep : ℕ → Bool) (rows : List Row) {a b : ℕ} → TreeOf rows a b →
    ((j k : ℕ) → j < k → k < length rows → doc_at rows j ≡ parent_at rows k → So (keep k) → So (keep j)) → From n rows (kept keep rows)
from-kept n keep rows tree up d l h =
    let o = (record_is (kept keep rows) d).0 h in
    let c = came keep rows tree up o.0 o.1 in
    (record_is rows d).1 (c.0, c.1, sym c.4.d ∙ o.2)

pub from-without : (n : ℕ) (q : ℕ → Bool) (rows : List Row) {a b : ℕ} → TreeOf rows a b → From n rows (without q rows)
unfolding without
from-without n q rows tree = from-kept n (stays q rows) rows tree (stays_up q rows tree)

-- A document below n stands where it stood.
pub renamed-back : (n e m : ℕ) (rows : List Row) → n ≤ m → (i d : ℕ) → i < length rows → d < n → doc_at (renamed e m rows) i ≡ d → doc_at rows i ≡ d
renamed-back n e m rows new i d l x q =
    test (is_doc rows e i)
    (λ y. absurd (let z : m ≡ d = sym (rw y at (renamed-doc e m rows i l)) ∙ q in omega arith))
    (λ y. sym (rw y at (renamed-doc e m rows i l)) ∙ q)

pub from-renamed : (n e m : ℕ) (rows : List Row) → n ≤ m → From n rows (renamed e m rows)
from-renamed n e m rows new d l h =
    let o = (record_is (renamed e m rows) d).0 h in
    let k : o.0 < length rows = subst (λ n. o.0 < n) (renamed-length e m rows) o.1 in
    (record_is rows d).1 (o.0, k, renamed-back n e m rows new o.0 d k l o.2)
