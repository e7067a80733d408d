-- The table that an accepted move leaves is sound and fits. Assumes nothing.
use Prim.Native.Nat.{ℕ, ◌≤◌, ◌<◌}
use mathlib.Core.List.{List}
use mathlib.Core.Logic.{◌≢◌}
use mathlib.Core.Path.{◌≡◌, ap, ◌∙◌}
use native.Mathlib.Omega.{arith}
use lib.IntN.{ℤ}
use lib.ListN.{length}
use Rattle.rules.specs.Rows.{Table, none}
use Rattle.rules.specs.Moves.{opened, tabbed, navigated, traversed, dropped, replaced}
use Rattle.rules.specs.Words.{capacity, table_of, rows_of, written}
use Rattle.rules.specs.Sound.{SoundTable, Sound}
use Rattle.rules.specs.Calls.{refusals, NoneGiven}
use Rattle.rules.specs.Runs.{Move, on, after}
use Rattle.laws.proofs.Tests.{count_most}
use Rattle.laws.proofs.Tree.{sound-of}
use Rattle.laws.proofs.Navigate.{opened-length, navigated-length, traversed-length}
use Rattle.laws.proofs.Drop.{stays_but, dropped-length, dropped-some}
use Rattle.laws.proofs.Replace.{stays_over, replaced-length, replaced-some}
use Rattle.laws.proofs.Words.{table-written}
use Rattle.laws.proofs.Accepted.{open-relies, tab-relies, navigate-relies, drop-relies, replace-relies}
use Rattle.windows.proofs.Window.{WideRows, wide_rows}
use Rattle.windows.proofs.Opened.{opened-wide, tabbed-wide}
use Rattle.windows.proofs.Navigated.{navigated-wide}
use Rattle.windows.proofs.Flagged.{traversed-sound}
use Rattle.windows.proofs.Dropped.{dropped-wide}
use Rattle.windows.proofs.Replaced.{replaced-wide}
use Rattle.demands.specs.Record.{Words32}
use Rattle.demands.proofs.Accepted.{go-relies, made}

-- A sound table with this room whose next numbers are words.
pub record Lasting (room : ℕ) (t : Table) : Type 0 where
  pub sound : SoundTable room t
  pub doc : t.next_doc ≤ none
  pub frame : t.next_frame ≤ none

pub lasting : (words : List ℕ) → Words32 words → Sound words → Lasting (capacity words) (table_of words)
unfolding table_of
lasting words wide s = record { sound = s.table; doc = wide 1; frame = wide 2 }

-- The rows of a sound record, of all its windows.
pub wide_of : (words : List ℕ) → Words32 words → Sound words → WideRows (rows_of words) (table_of words).next_doc (table_of words).next_frame
unfolding table_of
wide_of words wide s = wide_rows s.table (wide 1)

pub long : (words : List ℕ) → Sound words → 7 ≤ length words
long words s = let a = s.table.s1.some in let b = s.table.s1.fits in omega arith

-- Rows as sound as a table's, in its room.
fill : {room : ℕ} {t : Table} → WideRows t.rows t.next_doc t.next_frame → 1 ≤ length t.rows → length t.rows ≤ room → SoundTable room t
fill s a b = sound-of (record { some = a; fits = b }) s.tree s.s6 s.s7

-- What an accepted move leaves is lasting.
module _ (words : List ℕ) (wide : Words32 words) (s : Sound words) where
  abbrev t : Table
  t = table_of words

  rows : WideRows t.rows t.next_doc t.next_frame
  rows = wide_of words wide s

  -- With a row more.
  add-lasting : (p : ℕ) → WideRows (opened t p).rows (opened t p).next_doc (opened t p).next_frame → t.next_doc ≢ none → t.next_frame ≢ none → length t.rows < capacity words →
      Lasting (capacity words) (opened t p)
  unfolding opened
  add-lasting p w d' f' roomy =
      let n = opened-length t p in
      let d = (lasting words wide s).doc in
      let f = (lasting words wide s).frame in
      record { sound = fill w (omega arith) (omega arith); doc = omega arith; frame = omega arith }

  open-lasting : (p : ℕ) → NoneGiven (refusals (on words (Move.opens p))) → Lasting (capacity words) (opened t p)
  open-lasting p h = let o = open-relies words p h in add-lasting p (opened-wide t rows o.doc p o.seen) o.doc o.frame o.roomy

  tab-lasting : NoneGiven (refusals (on words Move.tabs)) → Lasting (capacity words) (tabbed t)
  unfolding tabbed
  tab-lasting h = let o = tab-relies words h in add-lasting none (tabbed-wide t rows o.doc) o.doc o.frame o.roomy

  navigate-lasting : (d : ℕ) → NoneGiven (refusals (on words (Move.navigates d))) → Lasting (capacity words) (navigated t d)
  unfolding navigated
  navigate-lasting d h =
      let o = navigate-relies words d h in
      let n = navigated-length t d in
      let r = o.roomy in
      let a = (lasting words wide s).doc in
      let a' = o.doc in
      record { sound = fill (navigated-wide t rows o.doc d o.seen) (omega arith) (omega arith); doc = omega arith; frame = (lasting words wide s).frame }

  go-lasting : (root : ℕ) (δ : ℤ) (room : List ℕ) → NoneGiven (refusals (on words (Move.goes root δ room))) → Lasting (capacity words) (traversed t root δ)
  unfolding traversed
  go-lasting root δ room h =
      let n = traversed-length t root δ in
      let a = s.table.s1.some in
      let b = s.table.s1.fits in
      record {
        sound = fill (traversed-sound t rows root δ (go-relies words root δ room h).inside) (omega arith) (omega arith);
        doc = (lasting words wide s).doc;
        frame = (lasting words wide s).frame;
      }

  drop-lasting : (f : ℕ) → NoneGiven (refusals (on words (Move.drops f))) → Lasting (capacity words) (dropped t f)
  drop-lasting f h =
      let o = drop-relies words f h in
      let few = count_most (stays_but f t.rows) (length t.rows) in
      let n = dropped-length t f in
      let a = s.table.s1.some in
      let b = s.table.s1.fits in
      record {
        sound = fill (dropped-wide t rows f) (dropped-some t f rows.tree o.child a) (omega arith);
        doc = (lasting words wide s).doc;
        frame = (lasting words wide s).frame;
      }

  replace-lasting : (d : ℕ) → NoneGiven (refusals (on words (Move.replaces d))) → Lasting (capacity words) (replaced t d)
  unfolding replaced
  replace-lasting d h =
      let o = replace-relies words d h in
      let few = count_most (stays_over d t.rows) (length t.rows) in
      let n = replaced-length t d in
      let b = s.table.s1.fits in
      let a = (lasting words wide s).doc in
      let a' = o.doc in
      record {
        sound = fill (replaced-wide t rows o.doc d) (replaced-some t d rows.tree o.there) (omega arith);
        doc = omega arith;
        frame = (lasting words wide s).frame;
      }

  pub made-lasting : (m : Move) → NoneGiven (refusals (on words m)) → Lasting (capacity words) (made t m)
  made-lasting (Move.opens p) h = open-lasting p h
  made-lasting (Move.navigates d) h = navigate-lasting d h
  made-lasting (Move.goes root δ room) h = go-lasting root δ room h
  made-lasting (Move.drops f) h = drop-lasting f h
  made-lasting (Move.replaces d) h = replace-lasting d h
  made-lasting Move.tabs h = tab-lasting h

  -- The table after an accepted move is the one made.
  pub table-after : (m : Move) → NoneGiven (refusals (on words m)) → after words m ≡ written words (made t m) → table_of (after words m) ≡ made t m
  table-after m h e = let l = long words s in ap table_of e ∙ table-written words (made t m) (omega arith) (made-lasting m h).sound.s1.fits
