-- Functions that agree on a list.
use Rattle.std.specs.Prelude.{◌≡◌, ℕ, suc, List, [], ◌∷◌, map, slice_get, Some, refl}

pub map_same : {A B : Type 0} (f g : A → B) (xs : List A) → ((i : ℕ) (x : A) → slice_get xs i ≡ Some x → f x ≡ g x) → map f xs ≡ map g xs
map_same f g [] same = refl
map_same f g (x ∷ xs) same = rw (same 0 x refl, map_same f g xs (λ i y e. same (suc i) y e)) refl

-- the first function and then the second are the third
pub map_like : {A B C : Type 0} (f : A → B) (g : B → C) (h : A → C) (xs : List A) → ((i : ℕ) (x : A) → slice_get xs i ≡ Some x → g (f x) ≡ h x) → map g (map f xs) ≡ map h xs
map_like f g h [] same = refl
map_like f g h (x ∷ xs) same = rw (same 0 x refl, map_like f g h xs (λ i y e. same (suc i) y e)) refl
