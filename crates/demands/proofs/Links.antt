-- L6, how far the climb goes. Assumes nothing.
use Prim.Native.Nat.{ℕ, zero, suc, ◌<◌}
use mathlib.Core.List.{List}
use mathlib.Core.Path.{◌≡◌, refl, sym, ap, subst, subst₂, ◌∙◌}
use mathlib.Core.Logic.{◌↔◌}
use mathlib.Core.Bool.{So}
use native.Mathlib.Nat.{not-suc-le-zero}
use native.Mathlib.Omega.{arith}
use lib.ListN.{length, get_or}
use borrow.Author.Tests.{eq-eqb, ne_eqb}
use Rattle.rules.specs.Rows.{Row, doc_at, in_record, flag}
use Rattle.rules.specs.Steps.{climb_at, climb_of, visible}
use Rattle.rules.specs.Windows.{window_rows, is_root}
use Rattle.rules.specs.Words.{table_of, rows_of}
use Rattle.rules.specs.Sound.{S4, SoundTable, Sound}
use Rattle.rules.specs.Asks.{outline_of}
use Rattle.rules.specs.Calls.{Answer, hider, window_in}
use Rattle.laws.proofs.Tree.{Once, once-of, place-once, sound-of}
use Rattle.laws.proofs.Reflect.{record_is}
use Rattle.laws.proofs.Climb.{climbs-itself, climbs-row, climb-cases, links-up, links-before}
use Rattle.laws.proofs.Outlines.{outline-visible, outline-depth}
use Rattle.windows.proofs.Window.{WideRows, window-sound, wide-S7}
use Rattle.windows.proofs.Members.{member-climb, member-sees, root-some}
use Rattle.demands.specs.Record.{Words32}
use Rattle.demands.specs.Windows.{InWindow}
use Rattle.demands.specs.Links.{Followed, PairIn, LinksRightly}
use Rattle.demands.proofs.Lasting.{lasting, wide_of}
use Rattle.demands.proofs.Concealing.{visible-asked}

-- Where a document has one row, and a parent an earlier one.
module _ (rows : List Row) (once : Once (length rows) (doc_at rows)) (s4 : S4 rows) where
  row-followed : (n i : ℕ) → i < n → i < length rows → Followed rows (doc_at rows i) (climb_at rows i).links
  row-followed zero i c l = absurd (not-suc-le-zero c)
  row-followed (suc n) i c l =
      climb-cases rows once s4 i l
      (λ f e. rw e (Followed.itself i l refl f))
      (λ s p e. rw e (Followed.top i l refl s p))
      (λ s p j m q e. rw e (Followed.above i l refl s p (subst (λ d. Followed rows d (climb_at rows j).links) q (row-followed n j (omega arith) (omega arith)))))

  links-followed : (d : ℕ) → So (in_record rows d) → Followed rows d (climb_of rows d).links
  links-followed d there =
      let r = (record_is rows d).0 there in
      subst₂ (Followed rows) r.2 (ap (λ c. c.links) (sym (climbs-row rows once d {i = r.0} r.1 r.2)))
      (row-followed (suc r.0) r.0 (omega arith) r.1)

  followed-links : {d n : ℕ} → Followed rows d n → (climb_of rows d).links ≡ n
  followed-links {d} (Followed.itself i l e f) = ap (λ c. c.links) (climbs-row rows once d {i = i} l e ∙ climbs-itself rows i f)
  followed-links (Followed.top i l e s p) = ap (λ d. (climb_of rows d).links) (sym e) ∙ links-up rows once s4 i l s ∙ rw (eq-eqb _ _ p) refl
  followed-links (Followed.above i l e s p up) =
      ap (λ d. (climb_of rows d).links) (sym e) ∙ links-up rows once s4 i l s ∙ rw (ne_eqb _ _ p) (ap suc (followed-links up))

  links-are : (d n : ℕ) → So (in_record rows d) → ((climb_of rows d).links ≡ n) ↔ Followed rows d n
  links-are d n there = (λ e. subst (Followed rows d) e (links-followed d there), followed-links)

-- What an answer gives.
abbrev given : Answer → List ℕ
given (Answer.gives values) = values
given (Answer.refuses k values) = values

-- A window of a sound record.
module _ (words : List ℕ) (s : Sound words) (wide : Words32 words) (r : ℕ) where
  abbrev rows : List Row
  rows = rows_of words

  abbrev own : List Row
  own = window_rows r rows

  sound : WideRows rows (table_of words).next_doc (table_of words).next_frame
  sound = wide_of words wide s

  -- The window is a sound table by itself.
  own-table : So (is_root rows r) → SoundTable (length own) (window_in words r)
  own-table root =
      let u = window-sound rows sound r in
      sound-of (record { some = root-some rows sound.tree r root; fits = omega arith }) u.tree u.s6 (wide-S7 own u.s7)

  -- The pairs of its outline.
  outline-links : So (is_root rows r) → (d n : ℕ) → PairIn (outline_of (window_in words r)) n d ↔ (InWindow words r d × So (visible rows d) × ((climb_of rows d).links ≡ n))
  outline-links root d n =
      let links : ℕ → ℕ = λ d. (climb_of own d).links in
      let sees = member-sees rows sound.tree r d in
      let climbs = member-climb rows sound.tree r d in
      let t = own-table root in
      let word = (lasting words wide s).doc in
      let there = outline-visible (window_in words r) (length own) t word d in
      let deep = outline-depth (window_in words r) (length own) t word in (
        λ p.
            let v = sees.0 (there.0 (p.0, p.1, p.3)) in
            (v.0, v.1, ap (λ c. c.links) (sym (climbs v.0)) ∙ ap links (sym p.3) ∙ sym (deep p.0 p.1) ∙ p.2),
        λ (h, v, e).
            let p = there.1 (sees.1 (h, v)) in
            (p.0, p.1, deep p.0 p.1 ∙ ap links p.2 ∙ ap (λ c. c.links) (climbs h) ∙ e, p.2),
      )

-- "Let the answer carry the number of parent links followed [..] The number equals the links in the definition of that climb and is never more than the
-- document's row place, counted from 0."
pub links-rightly : (words : List ℕ) → Sound words → LinksRightly words
links-rightly words s =
    let rows = rows_of words in
    let once = once-of s.table in
    let s4 = s.table.s4 in
    let answers = visible-asked words s in
    record {
      links-asked = λ d n there. (
        λ r. (links-are rows once s4 d n there).0 (ap (λ a. get_or (given a) 2 0) (sym (answers d there) ∙ r.2)),
        λ f. (flag (visible rows d), hider words d, rw (← followed-links rows once s4 f) (answers d there)),
      );
      links-are = links-are rows once s4;
      links-bounded = λ d there.
          let r = (record_is rows d).0 there in
          rw (place-once rows once r.0 d r.1 r.2) (links-before rows once s4 d {i = r.0} r.1 r.2);
      links-depth = outline-links words s;
    }
