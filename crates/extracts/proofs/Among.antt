-- A traversal of a window's own record, and its flags put back, is the traversal of the window. Assumes nothing.
use Prim.Native.Nat.{ℕ, ◌≤◌, ◌<◌}
use mathlib.Core.Bool.{Bool, false, So, cond}
use mathlib.Core.List.{List, [], ◌∷◌}
use mathlib.Core.Path.{◌≡◌, refl, sym, ap, ap₂, subst, ◌∙◌}
use native.Mathlib.Omega.{arith}
use lib.IntN.{ℤ}
use lib.ListN.{length, get_or}
use Rattle.rules.specs.Rows.{Row, none, doc_at, shown_at, is_shown, with_flags}
use Rattle.rules.specs.Windows.{in_window, window_rows, is_root}
use Rattle.rules.specs.Moves.{reflagged, walked, traversed}
use Rattle.rules.specs.Words.{table_of, rows_of, written}
use Rattle.rules.specs.Calls.{Call, Answer, beyond, window_in, outcome}
use Rattle.laws.proofs.Tests.{test}
use Rattle.laws.proofs.Calls.{refused-keeps}
use Rattle.laws.proofs.Flags.{flags-length, flags-doc, flags-bit, flags-eq}
use Rattle.laws.proofs.Tree.{OneRoot}
use Rattle.laws.proofs.Travel.{walked-length}
use Rattle.laws.proofs.Words.{table-written, written-table}
use Rattle.windows.proofs.Window.{WideRows, wide_rows, window-sound, window-one-root, window-window, window-shown}
use Rattle.windows.proofs.Flagged.{own-flags, flagged-here, traversed-here, traversed-alone}
use Rattle.windows.proofs.Answers.{Twins, Trip, twins-trip, fit_wide}
use Rattle.sound.specs.Check.{Examined}
use Rattle.sound.proofs.Checks.{examined-sound, examined-fits, examined-long}
use Rattle.extracts.specs.Windows.{PutsBack, with_window, PutBack}
use Rattle.extracts.proofs.Taken.{zeros}
use Rattle.extracts.proofs.Windowed.{own-table, own-examined, own-twins}

module _ (words : List ℕ) (e : Examined words) (word : (table_of words).next_doc ≤ none) (r : ℕ) (root : So (is_root (rows_of words) r)) (own : List ℕ) (is : own ≡ written zeros (window_in words r)) where
  abbrev rows : List Row
  rows = rows_of words

  twins : Twins r words own
  twins = own-twins words e word r root own is

  wide : WideRows rows (table_of words).next_doc (table_of words).next_frame
  wide = wide_rows (examined-sound words e).table word

  own-rows : rows_of own ≡ window_rows r rows
  own-rows = ap (λ t. t.rows) (own-table words e word r root own is)

  -- The rows of the window with other flags can be put back.
  puts_back : (f : ℕ → Bool) (new : List ℕ) → rows_of new ≡ with_flags f (window_rows r rows) → PutsBack words r new
  puts_back f new q =
      record {
        examined = e;
        word = word;
        many = ap length q ∙ flags-length f (window_rows r rows);
        docs = λ i l. ap (λ x. doc_at x i) q ∙ ap (λ g. g i) (flags-doc f (window_rows r rows));
        bits = λ i l. subst (λ x. shown_at x i ≤ 1) (sym q) (flags-bit f (window_rows r rows) i (subst (λ n. i < n) (ap length q ∙ flags-length f (window_rows r rows)) l));
      }

  -- Its own flags leave the record as it was.
  back-same : reflagged r (window_rows r rows) rows ≡ rows
  unfolding reflagged
  back-same =
      flags-eq _ (is_shown rows) rows (λ i l. test (in_window r rows i) (λ t. rw t (window-shown rows wide.tree r i l t)) (λ o. rw o refl))
      ∙ own-flags rows wide.s6.bit

  -- Where its own record refuses, the record does, and keeps every word.
  pub stayed-among : (δ : ℤ) (lent new held : List ℕ) (k : ℕ) (vs : List ℕ) → outcome (Call.Traverse own r δ lent) ≡ record { answer = Answer.refuses k vs; lent = new ∷ held ∷ [] } →
      outcome (Call.Traverse words r δ lent) ≡ record { answer = Answer.refuses k vs; lent = words ∷ lent ∷ [] }
  stayed-among δ lent new held k vs told =
      let a : (outcome (Call.Traverse words r δ lent)).answer ≡ Answer.refuses k vs = (twins-trip r words own twins δ lent).answers ∙ ap (λ o. o.answer) told in
      ap₂ (λ x y. record { answer = x; lent = y }) a (refused-keeps (Call.Traverse words r δ lent) k vs a)

  module _ (δ : ℤ) (lent : List ℕ) (a : Answer) (new held left : List ℕ)
      (told : outcome (Call.Traverse own r δ lent) ≡ record { answer = a; lent = new ∷ held ∷ [] }) (back : PutBack words new left) where
    trip : Trip r words own twins δ lent
    trip = twins-trip r words own twins δ lent

    lent_is : new ∷ held ∷ [] ≡ cond trip.goes (written own (traversed (table_of own) r δ)) own ∷ trip.held ∷ []
    lent_is = ap (λ o. o.lent) (sym told) ∙ trip.there

    new_is : new ≡ cond trip.goes (written own (traversed (table_of own) r δ)) own
    new_is = ap (λ l. get_or l 0 []) lent_is

    -- Where it goes, its own record is walked through, and that is a change of flags.
    module _ (y : So trip.goes) where
      own-walked : (traversed (table_of own) r δ).rows ≡ walked δ (window_rows r rows)
      own-walked =
          let some = (examined-sound own (own-examined words e word r root own is)).table.s1.some in
          let l : 0 < length (window_rows r rows) = subst (λ x. 0 < length x) own-rows (omega arith) in
          traversed-alone (table_of own) (fit_wide twins.other) r δ (subst (λ x. beyond x δ ≡ false) twins.rows_are (trip.inside y))
          (subst OneRoot (sym own-rows) (window-one-root rows wide.tree r)) 0 (omega arith) (subst (λ x. So (in_window r x 0)) (sym own-rows) (window-window rows wide.tree r 0 l))
          ∙ ap (walked δ) own-rows

      new-walked : rows_of new ≡ walked δ (window_rows r rows)
      new-walked =
          let x = own-examined words e word r root own is in
          let n = ap length own-walked ∙ walked-length δ (window_rows r rows) ∙ ap length (sym own-rows) in
          ap rows_of (new_is ∙ rw y refl) ∙ ap (λ t. t.rows) (table-written own (traversed (table_of own) r δ) (omega (arith, examined-long own x)) (omega (arith, examined-fits own x))) ∙ own-walked

      new-flags : rows_of new ≡ with_flags (is_shown (walked δ (window_rows r rows))) (window_rows r rows)
      unfolding traversed
      new-flags = new-walked ∙ sym (traversed-here (table_of words) wide r δ (trip.inside y)) ∙ flagged-here rows wide.tree wide.s6 r (walked δ (window_rows r rows))

    -- What is left is what the rules say.
    left_is : left ≡ cond trip.goes (written words (traversed (table_of words) r δ)) words
    unfolding traversed
    left_is =
        test trip.goes
        (λ y. rw y (back r (puts_back (is_shown (walked δ (window_rows r rows))) new (new-flags y)) ∙ ap (λ l. written words (with_window words r l)) (new-walked y)))
        (λ o.
        let n : rows_of new ≡ window_rows r rows = ap rows_of (new_is ∙ rw o refl) ∙ own-rows in
        rw o (back r (puts_back (is_shown (window_rows r rows)) new (n ∙ sym (own-flags (window_rows r rows) (window-sound rows wide r).s6.bit)))
        ∙ ap (λ l. written words (record { rows = l; next_doc = (table_of words).next_doc; next_frame = (table_of words).next_frame })) (ap (λ l. reflagged r l rows) n ∙ back-same)
        ∙ written-table words (examined-sound words e)))

    pub traverse-among : outcome (Call.Traverse words r δ lent) ≡ record { answer = a; lent = left ∷ held ∷ [] }
    traverse-among =
        let x : (outcome (Call.Traverse words r δ lent)).lent ≡ left ∷ held ∷ [] =
        trip.here ∙ ap₂ (λ u v. u ∷ v ∷ []) (sym left_is) (sym (ap (λ l. get_or l 1 []) lent_is)) in
        ap₂ (λ x y. record { answer = x; lent = y }) (trip.answers ∙ ap (λ o. o.answer) told) x
