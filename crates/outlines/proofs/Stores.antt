-- Runs of stores, one after another. Assumes nothing.
use Prim.Native.Nat.{ℕ, suc, ◌+◌}
use mathlib.Core.List.{List, ◌∷◌, ◌++◌}
use mathlib.Core.Path.{◌≡◌, refl}
use native.Mathlib.Omega.{arith}
use lib.ListN.{length, set}
use Rattle.rules.specs.Words.{put}
use Rattle.laws.proofs.Writes.{put-put}

-- A run of stores, and a run after it.
pub stored_on : (a b c : List ℕ) (k j : ℕ) (xs ys zs : List ℕ) → b ≡ put a k xs → j ≡ k + length xs → zs ≡ xs ++ ys → c ≡ put b j ys → c ≡ put a k zs
stored_on a b c k j xs ys zs e f g h = rw (h, e, f, g) (put-put xs ys a k)

-- Two words, and a run after them.
pub stored-pair : (a b c e : List ℕ) (k x y : ℕ) (xs zs : List ℕ) → b ≡ set a k x → c ≡ set b (k + 1) y → zs ≡ x ∷ y ∷ xs → e ≡ put c (k + 2) xs → e ≡ put a k zs
unfolding put
stored-pair a b c e k x y xs zs p q r s =
    let u : k + 1 ≡ suc k = omega arith in
    let v : k + 2 ≡ suc (suc k) = omega arith in
    rw (s, q, p, r, u, v) refl
