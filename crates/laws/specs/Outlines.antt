-- The outline by row places: what is written of a part of the record, and which row comes next. Definitions.
use Rattle.std.specs.Prelude.{ℕ, suc, ◌≤◌, ◌<◌, Bool, ◌&&◌, eqb, drop}
use Rattle.std.proofs.Math.Bool.{So}
use mathlib.Core.List.{List, ◌∷◌, flat_map}
use Rattle.rules.specs.Below.{rising}
use Rattle.rules.specs.Rows.{Row, Table, doc_at, frame_at, parent_at, is_shown, is_frame}
use Rattle.rules.specs.Moves.{frames}
use Rattle.rules.specs.Asks.{outline_frame}

-- The frames of document d that are numbered below g, by the rows from place s on.
unfoldable pub frames_below : Table → ℕ → ℕ → ℕ → ℕ → List ℕ
frames_below t s depth d g = flat_map (outline_frame (frames t) (drop s t.rows) depth d) (rising (is_frame t.rows) g)

-- All frames of document d.
abbrev pub frames_text : Table → ℕ → ℕ → ℕ → List ℕ
frames_text t s depth d = frames_below t s depth d t.next_frame

-- The document at place p and what is beneath it.
unfoldable pub document_text : Table → ℕ → ℕ → List ℕ
document_text t p depth = depth ∷ doc_at t.rows p ∷ frames_text t (suc p) (suc depth) (doc_at t.rows p)

-- Row i is shown in a frame of document d.
abbrev pub under : List Row → ℕ → ℕ → Bool
under rows d i = is_shown rows i && eqb (parent_at rows i) d

-- No row from place s up to e is so.
abbrev pub NoneIn : List Row → ℕ → ℕ → ℕ → ℕ → ℕ → Type 0
NoneIn rows s e d lo hi = (j : ℕ) → s ≤ j → j < e → So (under rows d j) → lo ≤ frame_at rows j → frame_at rows j < hi → ⊥

-- Of the rows from place s up to e, q is the first one of the lowest such frame number.
pub record Best (rows : List Row) (s e d lo hi q : ℕ) : Type 0 where
  pub after : s ≤ q
  pub inside : q < e
  pub child : So (under rows d q)
  pub from_on : lo ≤ frame_at rows q
  pub limited : frame_at rows q < hi
  pub first : NoneIn rows s q d lo (suc (frame_at rows q))
  pub lowest : NoneIn rows s e d lo (frame_at rows q)
