-- An expression in its stored form, with its type, as the code makes it: mirrors the code, no public promise rests on
-- it.
use Rattle.std.specs.Prelude.{Option, None, Some}
use Rattle.std.specs.Prelude.{◌≡◌, Bool, false, cond, ◌&&◌, ◌||◌, List, [], ℕ}
use Rattle.std.specs.Prelude.{◌-◌, ◌≤◌, eqb, ltb, length, take, drop, get_or}
use Rattle.rules.specs.declared.ValueType.{ValueType}
use Rattle.rules.specs.declared.ValueType.TheVariants.{Number, YesNo}
use Rattle.rules.specs.Limits.{short_most}
use Rattle.rules.specs.Operators.{takes, gives}
use Rattle.rules.specs.Trees.{Tree, num, read, two, negation, same_type, depth, stored_tree, stored_length}
use Rattle.text_laws.specs.Reader.{Out, fail, got}
use Rattle.names.specs.Repeats.{first_from, pad_to, same_name, at_most}
use Rattle.text_laws.specs.LineReader.{Got, miss, hit}
use Rattle.texts.specs.HeldNames.{Names}
use Rattle.texts.specs.NameStarts.{start_in}
use Rattle.texts.specs.declared.stored_trees.StoredTree.{StoredTree}

-- ── names that may be read, held by value ──

-- the field of an index is fixed and has the held name v
unfoldable pub reads_as : Names → List ℕ → ℕ → Bool
reads_as names v i =
    eqb (get_or names.marks i 0) 1
    && (same_name v (get_or names.shorts i []) || same_name v (get_or names.words i []))

-- it may be read by the name w
abbrev pub is_held : Names → List ℕ → ℕ → Bool
is_held names w = reads_as names (pad_to short_most w)

-- the index of the first of n fields, from the start of the name on, that may be read by the name, else n
unfoldable pub look_up : Names → ℕ → List ℕ → ℕ
look_up names n w =
    let k = at_most n (start_in names.starts (pad_to short_most w)) in
    first_from (is_held names w) k (n - k)

abbrev pub may_read : Names → ℕ → List ℕ → Bool
may_read names n w = ltb (look_up names n w) n

-- ── types ──

-- the type of an expression, if it has one, is k
abbrev pub is_type : ValueType → Option ValueType → Bool
is_type k None = false
is_type k (Some j) = same_type k j

-- none where operands have wrong types or a name may not be read
unfoldable pub type_of : {N : Type 0} → (N → Bool) → Tree N → Option ValueType
type_of may (num n) = Some Number
type_of may (read a) = cond (may a) (Some Number) None
type_of may (two o a b) =
    cond (is_type (takes o) (type_of may a) && is_type (takes o) (type_of may b)) (Some (gives o)) None
type_of may (negation a) = cond (is_type YesNo (type_of may a)) (Some YesNo) None

-- ── stored expressions ──

-- an expression with the bytes of the output that its stored form is put into
pub record TreeBytes : Type 0 where
  pub next : ℕ
  pub gives : Option ValueType
  pub depth : ℕ
  pub len : ℕ
  pub bytes : List ℕ

abbrev pub held : StoredTree → List ℕ → TreeBytes
held r bytes = record { next = r.next; gives = r.gives; depth = r.depth; len = r.len; bytes = bytes }

abbrev pub maybe_held : Option StoredTree → List ℕ → Option TreeBytes
maybe_held None bytes = None
maybe_held (Some r) bytes = Some (held r bytes)

-- the length of the stored form, 0 where there is none
abbrev pub form_length : Option StoredTree → ℕ
form_length None = 0
form_length (Some r) = r.len

-- r holds the tree t, whose names are those of the first n fields; its bytes, if there is room for them
pub record StoredIs (names : Names) (n : ℕ) (t : Tree (List ℕ)) (r : TreeBytes) : Type 0 where
  pub len : r.len ≡ stored_length t
  pub gives : r.gives ≡ type_of (may_read names n) t
  pub deep : r.depth ≡ depth t
  pub bytes : stored_length t ≤ length r.bytes → take r.len r.bytes ≡ stored_tree (look_up names n) t

-- the code's answer r is that of the reader in the text s
pub record TreeGot (names : Names) (n : ℕ) (s : List ℕ) (o : Out) (r : TreeBytes) : Type 0 where
  pub tree : Tree (List ℕ)
  pub is_read : o ≡ got tree (drop r.next s)
  pub stored : StoredIs names n tree r

abbrev pub SameStored : Names → ℕ → List ℕ → Out → Option TreeBytes → Type 0
SameStored names n s o None = o ≡ fail
SameStored names n s o (Some r) = TreeGot names n s o r

-- the same for a whole expression
pub record TreeAs (names : Names) (n : ℕ) (s : List ℕ) (g : Got (Tree (List ℕ))) (r : TreeBytes) : Type 0 where
  pub tree : Tree (List ℕ)
  pub is_read : g ≡ hit tree (drop r.next s)
  pub stored : StoredIs names n tree r

abbrev pub StoredFor : Names → ℕ → List ℕ → Got (Tree (List ℕ)) → Option TreeBytes → Type 0
StoredFor names n s g None = g ≡ miss
StoredFor names n s g (Some r) = TreeAs names n s g r
