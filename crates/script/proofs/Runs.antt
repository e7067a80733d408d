-- Parts of a text answered one after the other. Assumes nothing.
use Rattle.std.proofs.Common.{ℕ, ◌+◌, ◌-◌, ◌<◌, List, [], ◌∷◌, ◌++◌, Option, None, Some, IfSome, length, take, drop, replicate, get_or, ◌≡◌, sym, subst}
use Rattle.std.proofs.Math.Seq.{take-add}
use Rattle.std.proofs.lemmas.List.{take_rest}
use Rattle.std.proofs.KnownBytes.{Appends-nil, Appends-trans, Consumes-nil, Consumes-trans, Consumes-whole}
use Rattle.std.specs.Io.KnownBytes.{Appends, Consumes, IsAtEnd}
use Rattle.texts.specs.Texts.{unended, lines_from, lines_of, answers, printed, script_text}
use Rattle.rules.specs.Calls.{Call, Answer, outcome}
use Rattle.texts.specs.Feeds.{Reader, read_by, printed_by, Session, Reads}
use Rattle.texts.proofs.Alike.{same-trans, same_self, same_read, same-printed}
use Rattle.texts.proofs.Lines.{read-append, printed-append}
use Rattle.texts.proofs.Sessions.{last, session-prints}
use Rattle.script.specs.declared.Input.{Input}
use Rattle.script.specs.declared.Input.TheVariants.{More, End}
use Rattle.script.specs.Runs.{Answers, Takes, ReadsOnce}

-- No byte prints nothing.
pub answers_nothing : (s : Reader) (held : Option (List ℕ)) → Answers s [] s held held
unfolding read_by printed_by
answers_nothing s held = record { stands = same_self s; prints = Appends-nil held }

-- A part and the next.
pub answers_on : (s r q : Reader) (a b : List ℕ) (h h' h'' : Option (List ℕ)) → Answers s a r h h' → Answers r b q h' h'' → Answers s (a ++ b) q h h''
answers_on s r q a b h h' h'' first second =
    let e = same-printed b r (read_by s a) first.stands in
    record {
      stands = rw (read-append a b s) (same-trans q (read_by r b) (read_by (read_by s a) b) second.stands (same_read b r (read_by s a) first.stands));
      prints = rw (printed-append a b s, sym e) (Appends-trans h h' h'' (printed_by s a) (printed_by r b) first.prints second.prints);
    }

-- A text is answered up to a place, is fed from there on, and what that left in out is written.
pub fed_on : (s r q : Reader) (text : List ℕ) (at taken : ℕ) (out : List ℕ) (used : ℕ) (out' : List ℕ) (h h' h'' : Option (List ℕ)) → Answers s (take at text) r h h' →
    Reads r (take (length text - at) (drop at text)) taken q out used out' → Appends h' h'' (take used out') → Answers s (take (at + taken) text) q h h''
fed_on s r q text at taken out used out' h h' h'' before k p =
    let rest : take (length text - at) (drop at text) ≡ drop at text = take_rest text at in
    let k' : Reads r (drop at text) taken q out used out' = subst (λ l. Reads r l taken q out used out') rest k in
    rw (take-add at taken text)
    (answers_on s r q (take at text) (take taken (drop at text)) h h' h'' before (record { stands = k'.stands; prints = subst (Appends h' h'') k'.prints p }))

-- No byte is taken.
pub takes_nothing : (left : Option (List ℕ)) (s : Reader) (held : Option (List ℕ)) → Takes left left s s held held
takes_nothing left s held = record { part = []; consumes = Consumes-nil left; told = answers_nothing s held }

-- A part is taken, and the next.
takes_on : (a b c : Option (List ℕ)) (s r q : Reader) (h h' h'' : Option (List ℕ)) → Takes a b s r h h' → Takes b c r q h' h'' → Takes a c s q h h''
takes_on a b c s r q h h' h'' first second =
    record {
      part = first.part ++ second.part;
      consumes = Consumes-trans a b c first.part second.part first.consumes second.consumes;
      told = answers_on s r q first.part second.part h h' h'' first.told second.told;
    }

-- A read of no byte.
pub takes_none : (a b : Option (List ℕ)) (n : ℕ) (buf : List ℕ) (s : Reader) (held : Option (List ℕ)) → n ≡ 0 → Consumes a b (take n buf) → Takes a b s s held held
takes_none a b n buf s held e k = record { part = []; consumes = subst (λ m. Consumes a b (take m buf)) e k; told = answers_nothing s held }

-- What was read so far, and then a read after which there may be more.
pub more_on : (a b c : Option (List ℕ)) (s r : Reader) (q : ℕ → Reader) (h h' h'' : Option (List ℕ)) (room : ℕ) (i : Input) (n : ℕ) → i ≡ More n → Takes a b s r h h' →
    ReadsOnce i room b c r q h' h'' → Takes a c s (q n) h h''
more_on a b c s r q h h' h'' room i n e before read = let k = rw e at read in takes_on a b c s r (q n) h h' h'' before k

-- All was taken, and the last line is answered.
takes_all : (a b : Option (List ℕ)) (s r : Reader) (h h' h'' : Option (List ℕ)) → Takes a b s r h h' → IsAtEnd b →
    Appends h' h'' (answers r.words r.changes (unended r.begun)) → IfSome a (λ text. Appends h h'' (answers s.words s.changes (lines_from s.begun text)))
takes_all a b s r h h' h'' t e p =
    let whole = session-prints (Session.goes Session.begins t.part r t.told.stands) in
    Consumes-whole a b t.part (λ text. Appends h h'' (answers s.words s.changes (lines_from s.begun text))) t.consumes e
    (subst (Appends h h'') whole (Appends-trans h h' h'' (printed_by s t.part) (last r) t.told.prints p))

-- What was read so far, and then a read after which there is no more, and the answer to the last line.
pub end_on : (a b c : Option (List ℕ)) (s r : Reader) (q : ℕ → Reader) (h h' h'' h₃ : Option (List ℕ)) (room : ℕ) (i : Input) (n : ℕ) → i ≡ End n → 0 < room → Takes a b s r h h' →
    ReadsOnce i room b c r q h' h'' → Appends h'' h₃ (answers (q n).words (q n).changes (unended (q n).begun)) →
    IfSome a (λ text. Appends h h₃ (answers s.words s.changes (lines_from s.begun text)))
end_on a b c s r q h h' h'' h₃ room i n e some before read p =
    let k = rw e at read in takes_all a c s (q n) h h'' h₃ (takes_on a b c s r (q n) h h' h'' before k.0) (k.1 some) p

-- The record that is started from, and the words for change rows.
pub started : (a h h' : Option (List ℕ)) (words : List ℕ) (answer : Answer) → outcome (Call.Fresh (replicate 2051 0)) ≡ record { answer = answer; lent = words ∷ [] } →
    IfSome a (λ text. Appends h h' (answers words (replicate 2048 0) (lines_of text))) → IfSome a (λ text. Appends h h' (script_text text))
unfolding printed
started None h h' words answer e p = tt
started (Some text) h h' words answer e p = subst (λ o. Appends h h' (answers (get_or o.lent 0 []) (replicate 2048 0) (lines_of text))) (sym e) p
