-- The rules of a line see only the faces of the lines before it.
use mathlib.Core.Path.{◌≡◌, refl}
use mathlib.Core.Bool.{Bool, ◌&&◌}
use mathlib.Core.List.{List, [], ◌∷◌, ◌++◌, append-nil}
use Prim.Native.Nat.{ℕ}
use lib.ListN.{length-map}
use Rattle.base.specs.Lists.{any, same}
use Rattle.rules.specs.Fields.{Width, fixed, measured, rest, Form, is_fixed_width, is_rest_width, is_fixed, is_rest}
use Rattle.rules.specs.Fields.{read_names}
use Rattle.rules.specs.Within.{keeps_names, keeps_types, keeps_rest, name_readable, clash}
use Rattle.rules.specs.Frames.{Slot}
use Rattle.text_laws.specs.Resolving.{first_index, index_of, rename_width, rename_field}
use Rattle.text_laws.specs.Lowest.{broken}
use Rattle.text_laws.specs.Judging.{face_width, face, faces, shows_cell, rules}

-- ── the face of a field ──

fixed_face : {N : Type 0} (v : Width N) → is_fixed_width (face_width v) ≡ is_fixed_width v
fixed_face (fixed n) = refl
fixed_face (measured u t) = refl
fixed_face rest = refl

rest_face : {N : Type 0} (v : Width N) → is_rest_width (face_width v) ≡ is_rest_width v
rest_face (fixed n) = refl
rest_face (measured u t) = refl
rest_face rest = refl

renamed_width : {N : Type 0} (g : List ℕ → N) (v : Width (List ℕ)) → face_width (rename_width g v) ≡ face_width v
renamed_width g (fixed n) = refl
renamed_width g (measured u t) = refl
renamed_width g rest = refl

-- names resolved in whatever way leave it as it is
pub renamed_face : {N : Type 0} (g : List ℕ → N) (x : Form) → face (rename_field g x) ≡ face x
renamed_face g x = rw (renamed_width g x.width) refl

-- ── what looks at faces ──

any_faces : (p : Form → Bool) → ((x : Form) → p (face x) ≡ p x) → (l m : List Form)
    → any p (faces l ++ m) ≡ any p (l ++ m)
unfolding any
any_faces p h [] m = refl
any_faces p h (x ∷ l) m = rw (h x, any_faces p h l m) refl

any_faces_all : (p : Form → Bool) → ((x : Form) → p (face x) ≡ p x) → (l : List Form) → any p (faces l) ≡ any p l
any_faces_all p h l = rw (append-nil (faces l), append-nil l) at (any_faces p h l [])

index_faces : (p : Form → Bool) → ((x : Form) → p (face x) ≡ p x) → (l m : List Form)
    → first_index p (faces l ++ m) ≡ first_index p (l ++ m)
unfolding first_index
index_faces p h [] m = refl
index_faces p h (x ∷ l) m = rw (h x, index_faces p h l m) refl

pub same_index : (l : List Form) (x : Form) (w : List ℕ) → index_of (faces l ++ (x ∷ [])) w ≡ index_of (l ++ (x ∷ [])) w
same_index l x w = index_faces (λ y. any (same w) (read_names y)) (λ y. refl) l (x ∷ [])

readable_face : (w : List ℕ) (x : Form)
    → (is_fixed (face x) && any (same w) (read_names (face x))) ≡ (is_fixed x && any (same w) (read_names x))
readable_face w x = rw (fixed_face x.width) refl

same_readable : (l m : List Form) → name_readable (faces l ++ m) ≡ name_readable (l ++ m)
same_readable l m = λ i w. any_faces (λ y. is_fixed y && any (same w) (read_names y)) (readable_face w) l m i

same_readable_all : (l : List Form) → name_readable (faces l) ≡ name_readable l
same_readable_all l = λ i w. any_faces_all (λ y. is_fixed y && any (same w) (read_names y)) (readable_face w) l i

-- ── the rules ──

same_names : (l : List Form) (x : Form) → keeps_names (faces l) x ≡ keeps_names l x
same_names l x = rw (any_faces_all (clash x) (λ y. refl) l) refl

same_types : (l : List Form) (x : Form) → keeps_types name_readable (faces l) x ≡ keeps_types name_readable l x
same_types l x = rw (same_readable_all l, same_readable l (x ∷ [])) refl

same_rests : (l : List Form) (x : Form) → keeps_rest (faces l) x ≡ keeps_rest l x
same_rests l x = rw (any_faces_all is_rest (λ y. rest_face y.width) l) refl

same_shown : (cells : List Slot) (l : List Form) (x : Form) → shows_cell cells (faces l) x ≡ shows_cell cells l x
same_shown cells l x = rw (length-map l face) refl

pub same_broken : (cells : List Slot) (p : ℕ) (l : List Form) (x : Form)
    → broken 6 p (rules cells) (faces l) x ≡ broken 6 p (rules cells) l x
unfolding broken
same_broken cells p l x = rw (same_shown cells l x, same_names l x, same_types l x, same_rests l x) refl
