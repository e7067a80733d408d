-- The model of source document 001, section 2, fully patched (patches 1 to 4). Documents are numbers.
use Rattle.std.specs.Prelude.{ℕ, suc, ◌<◌, List, [], ◌∷◌, ◌⊎◌, ◌↔◌, ◌≢◌, ◌≡◌, ℤ, pos, negsuc, length}

-- "Definition 1: A navigation history H = (D, A, →, ≤, ∼)": `child d e` is d → e, `le d e` is d ≤ e, `sim d e` is d ∼ e.
pub record History : Type 1 where
  pub D : ℕ → Type 0
  pub A : ℕ → Type 0
  pub child : ℕ → ℕ → Type 0
  pub le : ℕ → ℕ → Type 0
  pub sim : ℕ → ℕ → Type 0

-- "The reflexive transitive closure of →"
pub data Star (R : ℕ → ℕ → Type 0) (d : ℕ) : ℕ → Type 0 where
  here : Star R d d
  then : {e f : ℕ} → Star R d e → R e f → Star R d f

-- "Definition 1 [..] consists of [..] such that [..]"
pub record IsHistory (H : History) : Type 0 where
  -- "a finite set D", "a subset A ⊆ D", relations on D
  pub finite : (n : ℕ) × (f : ℕ → ℕ) × ((d : ℕ) → H.D d → (i : ℕ) × (i < n) × (f i ≡ d))
  pub active : (d : ℕ) → H.A d → H.D d
  pub child-on : (d e : ℕ) → H.child d e → H.D d × H.D e
  pub le_on : (d e : ℕ) → H.le d e → H.D d × H.D e
  pub sim-on : (d e : ℕ) → H.sim d e → H.D d × H.D e
  -- "a forest (D, →)": "acyclicity", "at most one parent"
  pub acyclic : (d e : ℕ) → H.child d e → Star H.child e d → ⊥
  pub one_parent : (d e c : ℕ) → H.child d e → H.child c e → d ≡ c
  -- "a total order (D, ≤)"
  pub le_refl : (d : ℕ) → H.D d → H.le d d
  pub le_trans : (c d e : ℕ) → H.le c d → H.le d e → H.le c e
  pub le-anti : (d e : ℕ) → H.le d e → H.le e d → d ≡ e
  pub le_total : (d e : ℕ) → H.D d → H.D e → H.le d e ⊎ H.le e d
  -- "an equivalence relation (D, ∼)"
  pub sim-refl : (d : ℕ) → H.D d → H.sim d d
  pub sim-trans : (c d e : ℕ) → H.sim c d → H.sim d e → H.sim c e
  pub sim-sym : (d e : ℕ) → H.sim d e → H.sim e d
  -- "for every d there is a unique d' ∈ A such that d ∼ d'"
  pub session : (d : ℕ) → H.D d → (e : ℕ) × H.A e × H.sim d e × ((f : ℕ) → H.A f → H.sim d f → f ≡ e)
  -- "for every d → e ∼ e' we have d → e'"
  pub siblings : (d e f : ℕ) → H.child d e → H.sim e f → H.child d f
  -- "for every d → e, we have d ≤ e"
  pub older : (d e : ℕ) → H.child d e → H.le d e

module _ (H : History) where
  -- d < e
  abbrev pub Earlier : ℕ → ℕ → Type 0
  Earlier d e = H.le d e × (d ≢ e)

  -- "d ≲ e whenever d ∼ e and d < e", "the session future of d is {e | d ≲ e}"
  abbrev pub Future : ℕ → ℕ → Type 0
  Future d e = H.sim d e × Earlier d e

  -- "A root vertex of a forest is a vertex v such that there is no w → v."
  abbrev pub Root : ℕ → Type 0
  Root d = H.D d × ((e : ℕ) → H.child e d → ⊥)

  -- "d → e and e ∈ A (the active child relationship)"
  abbrev pub active_child : ℕ → ℕ → Type 0
  active_child d e = H.child d e × H.A e

  -- "FA = {d | d₀ →* d} (the fully active documents)", by active children; "d₀ is the unique active root document"
  abbrev pub FA : ℕ → Type 0
  FA d = (r : ℕ) × Root r × H.A r × Star active_child r d

  -- "Patch 2: the joint session future is {e | ∃ d ∈ A : d ≲ e}, and the joint session past is {e | ∃ d ∈ A : d ≳ e}"
  abbrev pub JointFuture : ℕ → Type 0
  JointFuture e = (d : ℕ) × H.A d × Future d e

  abbrev pub JointPast : ℕ → Type 0
  JointPast e = (d : ℕ) × H.A d × Future e d

  -- "a document d can go back [when] there is some c ≲ d" (proof of theorem 1)
  abbrev pub CanGoBack : ℕ → Type 0
  CanGoBack d = (c : ℕ) × Future c d

  -- "Definition 2: deleting d from H": "D' = D \ {e | d →* e}", for every d of a set, active ones among them; of A and of the relations stays what is on D'.
  abbrev pub Remains : (ℕ → Type 0) → ℕ → Type 0
  Remains gone e = H.D e × (((d : ℕ) × gone d × Star H.child d e) → ⊥)

  abbrev pub deleting : (ℕ → Type 0) → History
  deleting gone =
      record {
        D = Remains gone;
        A = λ e. H.A e × Remains gone e;
        child = λ d e. H.child d e × Remains gone d × Remains gone e;
        le = λ d e. H.le d e × Remains gone d × Remains gone e;
        sim = λ d e. H.sim d e × Remains gone d × Remains gone e;
      }

  -- "Definition 2: replacing d by d' in H, where d ∈ FA and d' ∉ D". Document 02's Replace (L7) is another thing, which 001 lacks.
  abbrev pub replacing : ℕ → ℕ → History
  replacing d new =
      record {
        D = λ e. H.D e ⊎ (e ≡ new);
        A = λ e. (H.A e × (e ≢ d)) ⊎ (e ≡ new);
        child = λ e f. H.child e f ⊎ (H.child e d × (f ≡ new));
        le = λ e f. H.le e f ⊎ ((H.D e ⊎ (e ≡ new)) × (f ≡ new));
        sim = λ e f. H.sim e f ⊎ ((e ≡ new) × (f ≡ new)) ⊎ (H.sim e d × (f ≡ new)) ⊎ (H.sim d f × (e ≡ new));
      }

  -- "Definition 3: traversing the history to d": "e ∈ A' whenever d ≁ e ∈ A, or d = e"
  abbrev pub traversing_to : ℕ → History
  traversing_to d = record { D = H.D; A = λ e. ((H.sim d e → ⊥) × H.A e) ⊎ (d ≡ e); child = H.child; le = H.le; sim = H.sim }

-- "Patch 4: navigating from d to d' in H, where d ∈ FA, [is] deleting the joint session future, and then replacing d by d'"
abbrev pub navigating : History → ℕ → ℕ → History
navigating H d new = replacing (deleting H (JointFuture H)) d new

-- Two histories with the same documents and relations.
pub record Same (H K : History) : Type 0 where
  pub D : (d : ℕ) → H.D d ↔ K.D d
  pub A : (d : ℕ) → H.A d ↔ K.A d
  pub child : (d e : ℕ) → H.child d e ↔ K.child d e
  pub le : (d e : ℕ) → H.le d e ↔ K.le d e
  pub sim : (d e : ℕ) → H.sim d e ↔ K.sim d e

-- "[the set] P is d₁ < ⋯ < d_δ < ⋯" in the order R: these come first, and then others.
abbrev pub Leads : (ℕ → ℕ → Type 0) → (ℕ → Type 0) → List ℕ → Type 0
Leads R P [] = Unit {0}
Leads R P (d ∷ ds) = P d × ((e : ℕ) → P e → (d ≡ e) ⊎ R d e) × Leads R (λ e. P e × (d ≢ e)) ds

-- "Patch 1: there is some H = H₀, …, H_δ = H', such that H_{i-1} traverses the history to d_i in H_i"
abbrev pub ToEach : List ℕ → History → History → Type 0
ToEach [] H K = Same H K
ToEach (d ∷ ds) H K = ToEach ds (traversing_to H d) K

-- "Patch 1: H traverses the history by +δ to H' when the joint session future of H is d₁ < ⋯ < d_δ < ⋯ [..]"
abbrev pub Forward : ℕ → History → History → Type 0
Forward δ H K = (ds : List ℕ) × (length ds ≡ δ) × Leads (Earlier H) (JointFuture H) ds × ToEach ds H K

-- "Patch 3: H traverses the history from d' when there is some d such that d ≲ d', for any e ≲ d' we have e ≤ d": d is next before d'.
abbrev pub NextBefore : History → ℕ → ℕ → Type 0
NextBefore H d' d = Future H d d' × ((e : ℕ) → Future H e d' → H.le e d)

-- "and H traverses the history to d"; "H_{i-1} traverses the history from d_i in H_i"
abbrev pub FromEach : List ℕ → History → History → Type 0
FromEach [] H K = Same H K
FromEach (d' ∷ ds) H K = (d : ℕ) × NextBefore H d' d × FromEach ds (traversing_to H d) K

-- "Patch 3: H traverses the history by -δ to H' when the joint session past and active documents of H are d₁ > ⋯ > d_δ > ⋯ [..]", "patch 3's
-- list read without documents that can't go back" (document 01, Traverse)
abbrev pub Backward : ℕ → History → History → Type 0
Backward δ H K =
    (ds : List ℕ) × (length ds ≡ δ) × Leads (λ d e. Earlier H e d) (λ e. (JointPast H e ⊎ H.A e) × CanGoBack H e) ds × FromEach ds H K

-- H traverses the history by δ to K. "H traverses the history by 0 to H' when H = H'": no document is traversed to.
abbrev pub Traverses : ℤ → History → History → Type 0
Traverses (pos k) H K = Forward k H K
Traverses (negsuc k) H K = Backward (suc k) H K

-- "Definition 5: A navigation history is well formed whenever for any a ≲ b and c ≲ d, if a ∈ A and d ∈ A then d ≤ b."
abbrev pub WellFormed : History → Type 0
WellFormed H = (a b c d : ℕ) → Future H a b → Future H c d → H.A a → H.A d → H.le d b
