-- Who is visible at position p, of the documents below n that are in the record still, does not change with flags, with a row more or with rows removed that
-- are not of the first p steps. Assumes nothing.
use Prim.Native.Nat.{ℕ, ◌≤◌, ◌<◌}
use mathlib.Core.Path.{◌≡◌, refl, sym, ap, ◌∙◌, subst, subst₃}
use mathlib.Core.List.{List, [], ◌∷◌, ◌++◌}
use mathlib.Core.Logic.{◌≢◌, ◌⊎◌, inl, inr, ⊎_elim}
use mathlib.Core.Bool.{Bool, So, false, not, ◌&&◌, and-eq-true_iff}
use native.Mathlib.Omega.{arith}
use lib.Dec.{ltb}
use lib.ListN.{length}
use borrow.Author.Tests.{ltb-true}
use Rattle.rules.specs.Below.{count}
use Rattle.rules.specs.Rows.{Row, none, row_at, doc_at, frame_at, parent_at, in_record, marked}
use Rattle.rules.specs.Steps.{step, is_step, steps, visible}
use Rattle.laws.proofs.Tests.{by-lt, below-cases, count-le, count-mono, count_same, count-first}
use Rattle.laws.proofs.Frames.{due-first}
use Rattle.laws.proofs.Central.{flags_at, at_length, at-doc, at-frame, at-parent, at_at, at-steps}
use Rattle.laws.proofs.Append.{step-agree, length-snoc, snoc_old, snoc_new, append_at}
use Rattle.laws.proofs.Kept.{kept, kept-frames, Whole, step_kept, steps-kept, removed-steps}
use Rattle.laws.proofs.Tree.{TreeOf, came}
use Rattle.laws.proofs.Reflect.{record_is}
use Rattle.laws.proofs.Navigate.{tree-at}
use Rattle.laws.proofs.Climb.{seen-there}
use Rattle.demands.proofs.From.{From, from-append, from-kept}
use Rattle.demands.proofs.Seen.{seen-append, at-record, seen-still, kept_at}

-- Of so many places, document d stands at one of the first p steps.
abbrev EarlyIn : ℕ → ℕ → ℕ → (ℕ → ℕ) → (ℕ → ℕ) → Type 0
EarlyIn p d len doc frame = (k : ℕ) × (k < len) × (doc k ≡ d) × So (step frame k) × (count (step frame) k < p)

abbrev pub Early : ℕ → List Row → ℕ → Type 0
Early p rows d = EarlyIn p d (length rows) (doc_at rows) (frame_at rows)

-- What lies in a document from n on is itself one: those below n lie in each other, or in none.
abbrev ClosedIn : ℕ → ℕ → (ℕ → ℕ) → (ℕ → ℕ) → Type 0
ClosedIn n len doc parent = (i : ℕ) → i < len → n ≤ parent i → parent i ≢ none → n ≤ doc i

abbrev pub Closed : ℕ → List Row → Type 0
Closed n rows = ClosedIn n (length rows) (doc_at rows) (parent_at rows)

-- At the note every document is below n.
pub closed-note : (rows : List Row) {n b : ℕ} → TreeOf rows n b → Closed n rows
closed-note rows t i l a ne = ⊎_elim (λ e. absurd (ne e)) (λ r. absurd (omega (arith, t.below r.0 (omega (arith, r.1)), r.2))) (t.placed i l)

-- From these rows to those. A frame may have gone only where `Out` holds.
pub record Steady (Out : Type 0) (p n : ℕ) (rows to : List Row) : Type 0 where
  pub enough : p ≤ steps to
  pub closed : Closed n to
  -- The first p steps are the same.
  pub noted : (d : ℕ) → Early p to d → Early p rows d
  -- None of the documents below n is new, and those in the record are seen as before at position p.
  pub was : From n rows to
  pub seen : (d : ℕ) → d < n → So (in_record to d) → visible (flags_at p to) d ≡ visible (flags_at p rows) d
  -- What was seen is in the record still, unless a frame went.
  pub lost : (d : ℕ) → d < n → So (visible (flags_at p rows) d) → So (in_record to d) ⊎ Out

pub steady_then : {Out : Type 0} {p n : ℕ} {a b c : List Row} → Steady Out p n a b → Steady Out p n b c → Steady Out p n a c
steady_then x y =
    record {
      enough = y.enough;
      closed = y.closed;
      noted = λ d h. x.noted d (y.noted d h);
      was = λ d l h. x.was d l (y.was d l h);
      seen = λ d l h. y.seen d l h ∙ x.seen d l (y.was d l h);
      lost = λ d l v. ⊎_elim (λ h. y.lost d l (x.seen d l h ∙ v)) inr (x.lost d l v);
    }

module _ (Out : Type 0) (p n : ℕ) (rows : List Row) (few : p ≤ steps rows) (closed : Closed n rows) where
  pub seen-in : (d : ℕ) → So (visible (flags_at p rows) d) → So (in_record rows d)
  seen-in d v = sym (at-record p rows d) ∙ seen-there (flags_at p rows) d v

  pub steady-stay : Steady Out p n rows rows
  steady-stay = record { enough = few; closed = closed; noted = λ d h. h; was = λ d l h. h; seen = λ d l h. refl; lost = λ d l v. inl (seen-in d v) }

  -- Other flags.
  pub steady-at : (q : ℕ) → Steady Out p n rows (flags_at q rows)
  steady-at q =
      record {
        enough = let e = at-steps q rows in omega arith;
        closed = subst₃ (ClosedIn n) (sym (at_length q rows)) (sym (at-doc q rows)) (sym (at-parent q rows)) closed;
        noted = λ d h. subst₃ (EarlyIn p d) (at_length q rows) (at-doc q rows) (at-frame q rows) h;
        was = λ d l h. sym (at-record q rows d) ∙ h;
        seen = λ d l h. ap (λ r. visible r d) (at_at q p rows);
        lost = λ d l v. inl (at-record q rows d ∙ seen-in d v);
      }

  -- A row more, with a new document.
  module _ (r : Row) (new : n ≤ r.doc) where
    abbrev all : List Row
    all = rows ++ r ∷ []

    same-steps : (i : ℕ) → i < length rows → is_step all i ≡ is_step rows i
    same-steps = step-agree (length rows) (frame_at all) (frame_at rows) (λ k l. ap (λ x. x.frame) (snoc_old rows r k l))

    same_count : (i : ℕ) → i ≤ length rows → count (is_step all) i ≡ count (is_step rows) i
    same_count i l = count_same _ _ i (λ k m. same-steps k (omega arith))

    -- The new row is no early step.
    appended-noted : (d : ℕ) → Early p all d → Early p rows d
    unfolding steps
    appended-noted d h =
        ⊎_elim
        (λ e. absurd (let c = ap (count (is_step all)) e ∙ same_count (length rows) (omega arith) in omega (arith, h.4)))
        (λ m. (h.0, m, ap (λ x. x.doc) (sym (snoc_old rows r h.0 m)) ∙ h.2, sym (same-steps h.0 m) ∙ h.3, let c = same_count h.0 (omega arith) in omega (arith, h.4)))
        (below-cases (subst (λ k. h.0 < k) (length-snoc rows r) h.1))

    pub steady-append : Steady Out p n rows all
    unfolding steps
    steady-append =
        record {
          enough = omega (arith, same_count (length rows) (omega arith), length-snoc rows r, count-mono (is_step all) (length all) {i = length rows} (omega (arith, length-snoc rows r)));
          closed = λ i l a ne.
              ⊎_elim
              (λ e. subst (λ (x : Row). n ≤ x.doc) (sym (ap (row_at all) e ∙ snoc_new rows r)) new)
              (λ m.
              let o = snoc_old rows r i m in
              subst (λ (x : Row). n ≤ x.doc) (sym o) (closed i m (subst (λ (x : Row). n ≤ x.parent) o a) (λ z. ne (ap (λ x. x.parent) o ∙ z))))
              (below-cases (subst (λ k. i < k) (length-snoc rows r) l));
          noted = appended-noted;
          was = from-append n rows r new;
          seen = λ d l h.
              let ne : d ≢ r.doc = λ q. omega arith in
              ap (λ x. visible x d) (append_at p rows r few) ∙ seen-append (flags_at p rows) (marked (not (is_step all (length rows))) r) d ne;
          lost = λ d l v.
              let o = (record_is rows d).0 (seen-in d v) in
              inl ((record_is all d).1 (o.0, omega (arith, o.1, length-snoc rows r), ap (λ x. x.doc) (snoc_old rows r o.0 o.1) ∙ o.2));
        }

  -- Rows kept with what is above them, the first p steps among them.
  module _ (keep : ℕ → Bool) {a b : ℕ} (t : TreeOf rows a b)
      (up : (j k : ℕ) → j < k → k < length rows → doc_at rows j ≡ parent_at rows k → So (keep k) → So (keep j)) (whole : Whole keep rows p)
      (early : (k : ℕ) → k < length rows → So (is_step rows k) → count (is_step rows) k < p → So (keep k)) where
    firsts : (j k : ℕ) → j ≤ k → k < length rows → frame_at rows j ≡ frame_at rows k → is_step rows j ≡ false → So (keep k) → So (keep j)
    firsts j k x y e f = whole j k (omega arith) y e (due-first _ p j f)

    -- Of the steps before row k as many are kept as are early.
    early-kept : (k : ℕ) → k ≤ length rows → p ≤ count (is_step rows) k → p ≤ count (λ i. keep i && is_step rows i) k
    early-kept k l m =
        let g = count-le (λ i. is_step rows i && ltb (count (is_step rows) i) p) (λ i. keep i && is_step rows i) k (λ i x h.
        let v = simp and-eq-true_iff at h in
        simp and-eq-true_iff (early i (omega arith) v.0 (ltb-true _ _ v.1), v.0)) in
        omega (arith, count-first (is_step rows) p k)

    kept-noted : (d : ℕ) → Early p (kept keep rows) d → Early p rows d
    kept-noted d h =
        let c = came keep rows t up h.0 h.1 in
        let k = c.0 in
        let s = step_kept (length rows) (frame_at rows) (frame_at (kept keep rows)) keep (kept-frames keep rows) firsts k c.1 c.2 in
        let e = steps-kept (length rows) (frame_at rows) (frame_at (kept keep rows)) keep (kept-frames keep rows) firsts k (omega (arith, c.1)) in
        let m : count (is_step (kept keep rows)) (count keep k) < p = subst (λ i. count (is_step (kept keep rows)) i < p) (sym c.3) h.4 in
        (k, c.1, sym c.4.d ∙ h.2, sym s ∙ subst (λ i. So (is_step (kept keep rows) i)) (sym c.3) h.3, by-lt (count (is_step rows) k) p (λ x. x) (λ x. absurd (omega (arith, early-kept k (omega (arith, c.1)) x))))

    seen-by-kept : (d : ℕ) → So (in_record (kept keep rows) d) → visible (flags_at p (kept keep rows)) d ≡ visible (flags_at p rows) d
    seen-by-kept d h =
        let e = kept_at keep rows p few whole early in
        ap (λ l. visible l d) e
        ∙ seen-still keep (flags_at p rows) (tree-at p rows t)
        (λ j k l m q g. up j k l (subst (λ i. k < i) (at_length p rows) m) (ap (λ f. f j) (sym (at-doc p rows)) ∙ q ∙ ap (λ f. f k) (at-parent p rows)) g) d
        (ap (λ l. in_record l d) (sym e) ∙ at-record p (kept keep rows) d ∙ h)

    pub steady_kept : ((d : ℕ) → d < n → So (visible (flags_at p rows) d) → So (in_record (kept keep rows) d) ⊎ Out) → Steady Out p n rows (kept keep rows)
    unfolding steps
    steady_kept lost =
        record {
          enough = let m = early-kept (length rows) (omega arith) few in omega (arith, removed-steps keep rows p whole);
          closed = λ i l x ne.
              let c = came keep rows t up i l in
              subst (λ v. n ≤ v) (sym c.4.d) (closed c.0 c.1 (subst (λ v. n ≤ v) c.4.p x) (λ z. ne (c.4.p ∙ z)));
          noted = kept-noted;
          was = from-kept n keep rows t up;
          seen = λ d l h. seen-by-kept d h;
          lost = lost;
        }
