-- Saving and loading undo each other, and loading accepts only bytes that saving writes. Assumes nothing.
use Prim.Native.Nat.{ℕ, ◌+◌, ◌≤◌}
use mathlib.Core.Bool.{not, So}
use mathlib.Core.List.{List, [], ◌∷◌}
use mathlib.Core.Logic.{◌↔◌, inl, inr, ⊎_elim}
use mathlib.Core.Path.{◌≡◌, refl, sym, ap, ap₂, subst, ◌∙◌}
use native.Mathlib.Omega.{arith}
use lib.ListN.{length, get_or, take, drop}
use lib.Seq.{sets-eq, take_at}
use borrow.Author.Tests.{ltb-false, le-ltb, not-false}
use Rattle.rules.specs.Rows.{Table}
use Rattle.rules.specs.Words.{put, capacity, table_of, rows_of, written}
use Rattle.rules.specs.Sound.{Sound}
use Rattle.rules.specs.Saved.{saved, loaded, from_save?}
use Rattle.rules.specs.OldSaved.{old_saved, old_loaded, S2rising, S5alone}
use Rattle.rules.specs.Calls.{Call, Answer, refusals, accepted, outcome, NoneGiven}
use Rattle.rules.specs.Runs.{Move, after, run}
use Rattle.laws.proofs.Reflect.{sound-is}
use Rattle.laws.proofs.Words.{table-written, length-written, written-written, written-table}
use Rattle.laws.specs.Loading.{fills}
use Rattle.laws.proofs.Calls.{outcome-accepted, load_is, load-old-is}
use Rattle.laws.proofs.Loads.{loaded-saved, from-save-is, from-save-in}
use Rattle.laws.proofs.OldLoads.{old-loaded-saved, from-old-save-is, from-old-save-in}
use Rattle.demands.specs.Record.{Words32, Accepted}
use Rattle.demands.specs.Standing.{left}
use Rattle.demands.specs.Refuses.{Short, NotSaved, NotSavedThen, ◌if◌, lines, First, HoldsIn}
use Rattle.demands.specs.Saving.{Writes, UndoEachOther, TakesOld}
use Rattle.demands.proofs.Accepted.{accepted-none, made, by_move}
use Rattle.demands.proofs.Lasting.{long, made-lasting}
use Rattle.demands.proofs.Standing.{sound-kept, words-kept, standing}
use Rattle.demands.proofs.Loading.{load-out, load-in, load-leaves}
use Rattle.demands.proofs.Demand1.{table-of, first_holds, demand1}

-- ACCEPTED

-- Save is accepted exactly for a sound record and a run with room.
record Saves (words room : List ℕ) : Type 0 where
  sound : Sound words
  fits : length (saved (table_of words)) ≤ length room

module _ (words room : List ℕ) where
  save-out : Accepted (Call.Save words room) → Saves words room
  unfolding refusals NoneGiven
  save-out a =
      let h = accepted-none (Call.Save words room) a in
      record { sound = (sound-is words).0 (not-false _ h.1.0); fits = ltb-false _ _ h.1.1.0 }

  save-in : Saves words room → Writes words room (saved (table_of words))
  unfolding refusals NoneGiven accepted
  save-in s =
      outcome-accepted (Call.Save words room)
      (le-ltb _ _ (long words s.sound), (ap not ((sound-is words).1 s.sound), (le-ltb _ _ s.fits, tt)))

-- THERE AND BACK

-- Bytes written into a run are its first.
take_put : (bytes room : List ℕ) → length bytes ≤ length room → take (length bytes) (put room 0 bytes) ≡ bytes
unfolding put
take_put bytes room l = ap (take (length bytes)) (sets-eq bytes room 0 (omega arith)) ∙ take_at bytes (drop (0 + length bytes) room) (length bytes) refl

-- The bytes that Save writes are those of a sound table.
written-bytes : (words room bytes : List ℕ) → Writes words room bytes → Sound words × (bytes ≡ saved (table_of words))
written-bytes words room bytes e =
    let s = save-out words room (length bytes ∷ [], ap (λ o. o.answer) e) in
    let both = sym e ∙ save-in words room s in
    let answers : Answer.gives (length bytes ∷ []) ≡ Answer.gives (length (saved (table_of words)) ∷ []) = ap (λ o. o.answer) both in
    let n : length bytes ≡ length (saved (table_of words)) = cc in
    let runs : put room 0 bytes ≡ put room 0 (saved (table_of words)) = ap (λ o. get_or o.lent 0 []) both in
    (s.sound, sym (take_put bytes room (rw n s.fits)) ∙ ap₂ take n runs ∙ take_put (saved (table_of words)) room s.fits)

-- Load of what Save wrote, into any record with room for the rows, writes the same table.
load-writes : (words room bytes other : List ℕ) → Writes words room bytes → length (rows_of words) ≤ capacity other →
    outcome (Call.Load other bytes) ≡ fills other (table_of words)
load-writes words room bytes other e fits =
    let s = written-bytes words room bytes e in
    let t = table-of words s.0 in
    let back : loaded bytes ≡ table_of words = ap loaded s.1 ∙ loaded-saved (table_of words) t in
    let from : So (from_save? bytes) = rw s.1 (from-save-in (table_of words) t) in
    subst (λ u. outcome (Call.Load other bytes) ≡ fills other u) back
    (load-in (load_is other bytes) (record { seven = omega (arith, t.s1.some); from = from; fits = rw back fits }))

-- Save writes what Load took again into a run with room.
save-left : (words bytes : List ℕ) → Accepted (Call.Load words bytes) → (room : List ℕ) → length bytes ≤ length room → Writes (left (Call.Load words bytes)) room bytes
save-left words bytes a room fits =
    let s = (from-save-is bytes).0 (load-out (load_is words bytes) a).from in
    let r = load-leaves (load_is words bytes) (λ h. s.0) a in
    let same = ap saved r.1 ∙ s.1 in
    subst (Writes _ room) same (save-in _ room (record { sound = r.0; fits = rw same fits }))

-- A table written after moves is the table written before: moves keep the length and what stands past the rows.
module _ (t : Table) where
  after-move : (words : List ℕ) → Words32 words → Sound words → length t.rows ≤ capacity words → (m : Move) →
      (length (after words m) ≡ length words) × (written (after words m) t ≡ written words t)
  after-move words wide s fits m =
      let l = long words s in
      by_move words m
      (λ h e.
      let u = made (table_of words) m in
      (ap length e ∙ length-written words u, ap (λ w. written w t) e ∙ written-written words u (omega arith) (made-lasting words wide s m h).sound.s1.fits t fits))
      (λ e. (ap length e, ap (λ w. written w t) e))

  after-moves : (moves : List Move) (words : List ℕ) → Words32 words → Sound words → length t.rows ≤ capacity words →
      (length (run words moves) ≡ length words) × (written (run words moves) t ≡ written words t)
  unfolding run
  after-moves [] words wide s fits = (refl, refl)
  after-moves (m ∷ moves) words wide s fits =
      let a = after-move words wide s fits m in
      let b = after-moves moves (after words m) (words-kept words wide s m) (sound-kept words wide s m) (rw a.0 fits) in
      (b.0 ∙ a.0, b.1 ∙ a.1)

-- A loading call is refused by 3 exactly when its second line holds, if the record is not under 7 words.
refused-three : (c : Call) (words : List ℕ) (full P : Type 0) → lines c ≡ 1 if Short words ∷ 3 if P ∷ 7 if full ∷ [] → 7 ≤ length words → ((outcome c).answer ≡ Answer.refuses 3 []) ↔ P
unfolding First HoldsIn
refused-three c words full P is seven =
    let exact = (demand1 c).exactly 3 [] in (
      λ e. ⊎_elim (λ x. absurd (omega (arith, x.1))) (⊎_elim (λ x. x.1) (⊎_elim (λ x. absurd (omega (arith, x.0))) (λ x. absurd x))) (first_holds 3 [] (1 if Short words ∷ 3 if P ∷ 7 if full ∷ []) (subst (First 3 []) is (exact.0 e))),
      λ p. exact.1 (subst (First 3 []) (sym is) (inr (λ short. omega arith, inl (refl, p, refl)))),
    )

-- "Saving and loading undo each other, and loading accepts only bytes that saving writes."
pub undo-each-other : UndoEachOther
unfolding lines
undo-each-other =
    record {
      load-save = λ words room bytes other e fits.
          let o = load-writes words room bytes other e fits in
          let some = (written-bytes words room bytes e).0.table.s1.some in
          ((_, ap (λ o. o.answer) o), ap (λ o. table_of (get_or o.lent 0 [])) o ∙ table-written other (table_of words) (omega arith) fits);
      load-back = λ words room bytes moves wide e.
          let s = (written-bytes words room bytes e).0 in
          let fits = s.table.s1.fits in
          let a = after-moves (table_of words) moves words wide s fits in
          ap (λ o. get_or o.lent 0 []) (load-writes words room bytes (run words moves) e (rw a.0 fits)) ∙ a.1 ∙ written-table words s;
      save-load = λ words bytes room a fits. save-left words bytes a room fits;
      accepts-only = λ words bytes wide b a. (left (Call.Load words bytes), bytes, standing.load words bytes wide b a, save-left words bytes a bytes (omega arith));
      refuses-others = λ words bytes. refused-three (Call.Load words bytes) words _ (NotSaved bytes) refl;
    }

-- "The old form has its own loading call, which accepts exactly what it accepted."
pub takes-old : TakesOld
unfolding lines
takes-old =
    record {
      takes = λ words other s order alone fits.
          let t = table-of words s in
          let bytes = old_saved (table_of words) in
          let back : old_loaded bytes ≡ table_of words = old-loaded-saved (table_of words) t order in
          let o = subst (λ u. outcome (Call.LoadOld other bytes) ≡ fills other u) back (load-in (load-old-is other bytes) (record {
            seven = omega (arith, t.s1.some);
            from = from-old-save-in (table_of words) (record { sound = t; order = order; alone = alone });
            fits = rw back fits;
          })) in
          let some = t.s1.some in
          ((_, ap (λ o. o.answer) o), ap (λ o. table_of (get_or o.lent 0 [])) o ∙ table-written other (table_of words) (omega arith) fits);
      only = λ words bytes a.
          let s = (from-old-save-is bytes).0 (load-out (load-old-is words bytes) a).from in
          let r = load-leaves (load-old-is words bytes) (λ h. s.0.sound) a in
          (r.0, subst (λ (t : Table). S2rising t.rows t.next_doc) (sym r.1) s.0.order, subst (λ (t : Table). S5alone t.rows) (sym r.1) s.0.alone, ap old_saved r.1 ∙ s.1);
      refuses = λ words bytes. refused-three (Call.LoadOld words bytes) words _ (NotSavedThen bytes) refl;
    }
