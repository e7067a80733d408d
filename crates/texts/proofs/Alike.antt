-- A line that is too long is bad, however much of it is kept: readers that stand alike print the same. Assumes nothing.
use Prim.Native.Nat.{ℕ, ◌+◌, ◌-◌, ◌≤◌, ◌<◌}
use mathlib.Core.List.{List, [], ◌∷◌, ◌++◌}
use mathlib.Core.Logic.{inl, inr, ⊎_elim}
use mathlib.Core.Path.{◌≡◌, refl, sym, ap, ◌∙◌, subst}
use native.Mathlib.Omega.{arith}
use lib.Dec.{eqb}
use lib.ListN.{length, take, drop, length-append, length-take, take-append-drop}
use lib.Seq.{sets-eq, take_all, take_at, take-append_seam, take-append-add}
use borrow.Author.Tests.{lt-ltb}
use Rattle.rules.specs.Words.{put}
use Rattle.laws.proofs.Tests.{test, by-lt}
use Rattle.laws.proofs.Writes.{put-put, length-put}
use Rattle.lines.specs.Lines.{parse}
use Rattle.lines.specs.Reply.{Said, answer_text}
use Rattle.turns.specs.Turns.{turned}
use Rattle.texts.specs.Cuts.{grown}
use Rattle.texts.specs.Feeds.{Reader, longer, onward, read_by, printed_by, Alike, Same}
use Rattle.texts.proofs.Cutting.{put-out}

long-bad : (words changes line : List ℕ) → 64 < length line → turned words changes line ≡ record { said = Said.bad; words = words; changes = changes }
unfolding turned parse
long-bad words changes line l = rw (lt-ltb 64 (length line) l) refl

-- A line and one like it do the same and are answered the same.
pub alike_turned : (words changes a b : List ℕ) → Alike a b → turned words changes a ≡ turned words changes b
alike_turned words changes a b h = ⊎_elim (λ e. ap (turned words changes) e) (λ l. long-bad words changes a l.0 ∙ sym (long-bad words changes b l.1)) h

alike-more : (a b : List ℕ) (x : ℕ) → Alike a b → Alike (a ++ x ∷ []) (b ++ x ∷ [])
alike-more a b x h = ⊎_elim (λ e. inl (ap (λ o. o ++ x ∷ []) e)) (λ l. inr (omega (arith, length-append a (x ∷ []), l.0), omega (arith, length-append b (x ∷ []), l.1))) h

pub alike-trans : (a b c : List ℕ) → Alike a b → Alike b c → Alike a c
alike-trans a b c h k =
    ⊎_elim (λ e. subst (λ x. Alike x c) (sym e) k) (λ l. ⊎_elim (λ e. inr (l.0, omega (arith, ap length e, l.1))) (λ m. inr (l.0, m.1)) k) h

pub same-trans : (s r t : Reader) → Same s r → Same r t → Same s t
same-trans s r t h k =
    record {
      words_are = h.words_are ∙ k.words_are;
      changes-are = h.changes-are ∙ k.changes-are;
      begun-alike = alike-trans s.begun r.begun t.begun h.begun-alike k.begun-alike;
    }

pub same_self : (s : Reader) → Same s s
same_self s = record { words_are = refl; changes-are = refl; begun-alike = inl refl }

-- At the end of a line.
module _ (s r : Reader) (h : Same s r) where
  pub same-turned : turned s.words s.changes s.begun ≡ turned r.words r.changes r.begun
  same-turned =
      ap (λ w. turned w s.changes s.begun) h.words_are ∙ ap (λ c. turned r.words c s.begun) h.changes-are
      ∙ alike_turned r.words r.changes s.begun r.begun h.begun-alike

  same-onward : Same (onward s) (onward r)
  same-onward = record { words_are = ap (λ t. t.words) same-turned; changes-are = ap (λ t. t.changes) same-turned; begun-alike = inl refl }

  same-longer : (b : ℕ) → Same (longer s b) (longer r b)
  same-longer b = record { words_are = h.words_are; changes-are = h.changes-are; begun-alike = alike-more s.begun r.begun b h.begun-alike }

-- After a text.
pub same_read : (text : List ℕ) (s r : Reader) → Same s r → Same (read_by s text) (read_by r text)
unfolding read_by
same_read [] s r h = h
same_read (b ∷ text) s r h =
    test (eqb b 10) (λ t. rw t (same_read text (onward s) (onward r) (same-onward s r h))) (λ f. rw f (same_read text (longer s b) (longer r b) (same-longer s r h b)))

pub same-printed : (text : List ℕ) (s r : Reader) → Same s r → printed_by s text ≡ printed_by r text
unfolding printed_by
same-printed [] s r h = refl
same-printed (b ∷ text) s r h =
    test (eqb b 10)
    (λ t. rw t (ap (λ u. answer_text u.said ++ printed_by (onward s) text) (same-turned s r h)
    ∙ ap (λ x. answer_text (turned r.words r.changes r.begun).said ++ x) (same-printed text (onward s) (onward r) (same-onward s r h))))
    (λ f. rw f (same-printed text (longer s b) (longer r b) (same-longer s r h b)))

-- What is kept of a line, and of its next bytes.
kept-bytes : (line run : List ℕ) (kept : ℕ) → take (grown (length line) kept (length run)) (put line kept run) ≡ take (length line) (take kept line ++ run)
unfolding put
kept-bytes line run kept =
    by-lt kept (length line)
    (λ l.
    let t : length (take kept line) ≡ kept = length-take kept line ∙ omega arith in
    by-lt (length line) (kept + length run)
    (λ o. overflow t l o)
    (λ o.
    let g : grown (length line) kept (length run) ≡ kept + length run = omega arith in
    let n : length (take kept line ++ run) ≡ kept + length run = length-append (take kept line) run ∙ ap (λ k. k + length run) t in
    rw (g, sets-eq run line kept o) (take_at (take kept line ++ run) (drop (kept + length run) line) (kept + length run) n
    ∙ sym (take_all (length line) (take kept line ++ run) (omega arith)))))
    (λ l.
    ap (take (grown (length line) kept (length run))) (put-out run line kept l) ∙ take_all (grown (length line) kept (length run)) line (omega arith)
    ∙ sym (ap (λ o. take (length line) (o ++ run)) (take_all kept line l) ∙ take-append_seam line run))
  where
    overflow : length (take kept line) ≡ kept → kept < length line → length line < kept + length run →
        take (grown (length line) kept (length run)) (put line kept run) ≡ take (length line) (take kept line ++ run)
    overflow t l o =
        let m = length line - kept in
        let g : grown (length line) kept (length run) ≡ length line = omega arith in
        let f : length (take m run) ≡ m = length-take m run ∙ omega arith in
        let e : kept + length (take m run) ≡ length line = omega arith in
        let part : put line kept run ≡ put line kept (take m run) =
        ap (put line kept) (sym (take-append-drop m run)) ∙ sym (put-put (take m run) (drop m run) line kept)
        ∙ put-out (drop m run) (put line kept (take m run)) (kept + length (take m run)) (omega (arith, length-put line kept (take m run))) in
        let n : length (take kept line ++ take m run) ≡ length line = length-append (take kept line) (take m run) ∙ omega arith in
        let q : length (take kept line) + m ≡ length line = omega arith in
        rw (g, part, sets-eq (take m run) line kept (omega arith))
        (take_at (take kept line ++ take m run) (drop (kept + length (take m run)) line) (length line) n ∙ sym (rw q at (take-append-add (take kept line) run m)))

-- What is kept of a line is like the line itself, where 65 bytes are kept.
pub kept-alike : (line run : List ℕ) (kept : ℕ) → 65 ≤ length line → Alike (take (grown (length line) kept (length run)) (put line kept run)) (take kept line ++ run)
kept-alike line run kept wide =
    let whole = take kept line ++ run in
    by-lt (length line) (length whole)
    (λ l. inr (omega (arith, ap length (kept-bytes line run kept), length-take (length line) whole), omega arith))
    (λ l. inl (kept-bytes line run kept ∙ take_all (length line) whole l))
