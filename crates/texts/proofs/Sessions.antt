-- A text fed in any parts and finished prints what the whole text prints. Assumes nothing.
use Prim.Native.Nat.{ℕ, ◌+◌, ◌*◌}
use mathlib.Core.List.{List, [], ◌∷◌, ◌++◌, append-nil}
use mathlib.Core.Logic.{⊎_elim}
use mathlib.Core.Path.{◌≡◌, refl, sym, ap, ◌∙◌}
use native.Mathlib.Omega.{arith}
use lib.ListN.{get_or, take, replicate}
use Rattle.rules.specs.Words.{put}
use Rattle.rules.specs.Calls.{Call, outcome}
use Rattle.lines.specs.Reply.{answer_text}
use Rattle.turns.specs.Turns.{turned}
use Rattle.texts.specs.Texts.{unended, lines_from, answers, printed, script_text}
use Rattle.texts.specs.Feeds.{Reader, read_by, printed_by, Alike, Same, Session, LastAnswered, Finishes}
use Rattle.std.specs.Prelude.{Some}
use Rattle.texts.proofs.Lines.{read-append, printed-append, printed-whole}
use Rattle.texts.proofs.Alike.{alike_turned, same-trans, same_self, same_read, same-printed}
use Rattle.texts.proofs.Feeding.{take-written}

-- What a reader prints for a line that is not ended.
abbrev pub last : Reader → List ℕ
last s = answers s.words s.changes (unended s.begun)

-- Readers that stand alike print the same for it.
last-alike : (words changes a b : List ℕ) → Alike a b → answers words changes (unended a) ≡ answers words changes (unended b)
unfolding answers
last-alike words changes [] b h = ⊎_elim (λ e. ap (λ o. answers words changes (unended o)) e) (λ l. absurd (omega (arith, l.0))) h
last-alike words changes (x ∷ a) [] h = ⊎_elim (λ e. ap (λ o. answers words changes (unended o)) e) (λ l. absurd (omega (arith, l.1))) h
last-alike words changes (x ∷ a) (y ∷ b) h = ap (λ t. answer_text t.said ++ answers t.words t.changes []) (alike_turned words changes (x ∷ a) (y ∷ b) h)

last-same : (r q : Reader) → Same r q → last r ≡ last q
last-same r q h =
    ap (λ w. answers w r.changes (unended r.begun)) h.words_are ∙ ap (λ c. answers q.words c (unended r.begun)) h.changes-are
    ∙ last-alike q.words q.changes r.begun q.begun h.begun-alike

-- What a session has printed, and where it stands.
so-far : {s r : Reader} {text out : List ℕ} → Session s text out r → (out ≡ printed_by s text) × Same r (read_by s text)
unfolding read_by printed_by
so-far {s} Session.begins = (refl, same_self s)
so-far {s} (Session.goes {text} {out} {r} before part next h) =
    let b = so-far before in (
      ap (λ o. o ++ printed_by r part) b.0 ∙ ap (λ p. printed_by s text ++ p) (same-printed part r (read_by s text) b.1) ∙ sym (printed-append text part s),
      rw (read-append text part s) (same-trans next (read_by r part) (read_by (read_by s text) part) h (same_read part r (read_by s text) b.1)),
    )

-- A text read in any parts: what was printed on the way, and then the last line's answer, is what the whole text prints.
pub session-prints : {s r : Reader} {text out : List ℕ} → Session s text out r → out ++ last r ≡ answers s.words s.changes (lines_from s.begun text)
session-prints {s} {r} {text} {out} k =
    let b = so-far k in ap (λ o. o ++ last r) b.0 ∙ ap (λ l. printed_by s text ++ l) (last-same r (read_by s text) b.1) ∙ sym (printed-whole text s)

-- What `finish` leaves in out is the last line's answer.
pub finish-prints : (words changes line : List ℕ) (kept : ℕ) (out : List ℕ) (n : ℕ) (words' changes' out' : List ℕ) → Finishes words changes line kept out (Some n) words' changes' out' →
    take n out' ≡ last (record { words = words; changes = changes; begun = take kept line })
unfolding answers
finish-prints words changes line kept out n words' changes' out' h = by-line (take kept line) h.0
  where
    by-line : (l : List ℕ) → LastAnswered (unended l) words changes out words' changes' out' n → take n out' ≡ answers words changes (unended l)
    by-line [] a = ap (λ k. take k out') a.3
    by-line (b ∷ l) a =
        let said = answer_text (turned words changes (b ∷ l)).said in
        let e = a.text-is.past in
        let m = a.short in
        let r = h.1 in
        ap (take n) a.text-is.list ∙ ap (λ k. take k (put out 0 said)) e ∙ take-written out said 0 (omega arith) ∙ sym (append-nil said)

-- The script program's reader before the first byte, and what is printed in all.
abbrev pub start : Reader
start = record { words = get_or (outcome (Call.Fresh (replicate (3 + 4 * 512) 0))).lent 0 []; changes = replicate (4 * 512) 0; begun = [] }

pub script-prints : {r : Reader} {text out : List ℕ} → Session start text out r → out ++ last r ≡ script_text text
unfolding printed
script-prints k = session-prints k
