-- The number of the shape of a value type.
use Rattle.std.specs.Prelude.{ℕ, ◌+◌, ◌<◌, ◌≤◌, ◌≡◌, List, [], ◌∷◌, ◌++◌, length, map, cond, Bool, true, false, Option, Some, None, Vec, slice_get}
use Rattle.std.specs.BTreeMap.{BTreeMap, get, get_by}
use Rattle.std.specs.Cmp.Lexicographic.{slice_cmp}
use Rattle.std.specs.Ordering.{nat_cmp, ordering_then}
use Rattle.std.specs.declared.alloc.Global.{Global}
use Rattle.std.specs.declared.cmp.Ordering.{Ordering}
use Rattle.wcv_core.specs.Names.{Name, number}
use Rattle.wcv_core.specs.declared.primitive.PrimitiveValType.{PrimitiveValType}
use Rattle.wcv_core.specs.declared.primitive.PrimitiveValType.TheVariants as prim
use Rattle.wcv_types.specs.Alike.{form_number, form_primitive, form_length, form_names}
use Rattle.wcv_types.specs.Tree.{Text, Former, own_of, borrow_of, Head, nothing, primitive, resource, defined, Role, here, label, Tree, node, Parts, none, part}
use Rattle.wcv_types.specs.Unfold.{tree_in, trees}
use Rattle.wcv_types.specs.declared.arena.Node.{Node}
use Rattle.wcv_types.specs.declared.arena.Node.TheVariants as n
use Rattle.wcv_types.specs.declared.ids.AliasableResourceId.{AliasableResourceId}
use Rattle.wcv_types.specs.declared.shape_numbers.Given.{Given}
use Rattle.wcv_types.specs.declared.shape_numbers.ShapeNumbers.{ShapeNumbers}
use Rattle.wcv_types.specs.declared.shapes.ComponentDefinedType.{ComponentDefinedType}

-- ## Codes

-- what is written of a part or of a name: its label, if it has one, and a number
abbrev pub Entry : Type 0
Entry = Option Text × ℕ

-- numbers, and the bytes of texts
abbrev pub Code : Type 0
Code = List ℕ × List ℕ

abbrev pub primitive_number : PrimitiveValType → ℕ
primitive_number prim.Bool = 1
primitive_number prim.S8 = 2
primitive_number prim.U8 = 3
primitive_number prim.S16 = 4
primitive_number prim.U16 = 5
primitive_number prim.S32 = 6
primitive_number prim.U32 = 7
primitive_number prim.S64 = 8
primitive_number prim.U64 = 9
primitive_number prim.F32 = 10
primitive_number prim.F64 = 11
primitive_number prim.Char = 12
primitive_number prim.String = 13
primitive_number prim.ErrorContext = 14

-- of a primitive, or of what is left out
abbrev pub leaf_number : Option PrimitiveValType → ℕ
leaf_number None = 0
leaf_number (Some p) = primitive_number p

-- the least number of a code
abbrev pub first_number : ℕ
first_number = 15

abbrev pub label_mark : Option Text → ℕ
label_mark None = 0
label_mark (Some t) = length t + 1

abbrev pub label_bytes : Option Text → List ℕ
label_bytes None = []
label_bytes (Some t) = t

abbrev pub entry_numbers : List Entry → List ℕ
entry_numbers [] = []
entry_numbers (e ∷ es) = label_mark e.0 ∷ e.1 ∷ entry_numbers es

abbrev pub entry_bytes : List Entry → List ℕ
entry_bytes [] = []
entry_bytes (e ∷ es) = label_bytes e.0 ++ entry_bytes es

-- the names of flags or of an enum
abbrev pub name_entries : List Text → List Entry
name_entries ns = map (λ n. (Some n, 0)) ns

-- what is written of a form before its parts
abbrev pub form_numbers : Former → List ℕ
form_numbers k = form_number k ∷ form_length k ∷ length (form_names k) ∷ []

abbrev pub code_of : Former → List Entry → Code
code_of k es = (form_numbers k ++ entry_numbers (name_entries (form_names k) ++ es), entry_bytes (name_entries (form_names k) ++ es))

-- the resource of a handle
abbrev pub handle_entries : Option AliasableResourceId → List Entry
handle_entries None = []
handle_entries (Some r) = (None, r.resource.index) ∷ []

abbrev pub Key : Type 0
Key = Vec ℕ Global × Vec ℕ Global

-- the entries are written behind these numbers
pub record IsWritten (p : List ℕ) (es : List Entry) (key : Key) : Type 0 where
  pub numbers : key.0.items ≡ p ++ entry_numbers es
  pub bytes : key.1.items ≡ entry_bytes es

-- ## Numbers

-- numbers of codes
abbrev pub Codes : Type 0
Codes = Code → Option ℕ

-- no two codes have one number, and none has that of a leaf
pub record AreApart (m : Codes) : Type 0 where
  pub one : (c d : Code) (k : ℕ) → m c ≡ Some k → m d ≡ Some k → c ≡ d
  pub above : (c : Code) (k : ℕ) → m c ≡ Some k → first_number ≤ k

-- a code that has a number keeps it
abbrev pub Keeps : Codes → Codes → Type 0
Keeps m m' = (c : Code) (k : ℕ) → m c ≡ Some k → m' c ≡ Some k

abbrev pub is_handle : Former → Bool
is_handle own_of = true
is_handle borrow_of = true
is_handle k = false

abbrev pub of_handle : Head Name Name → Bool
of_handle (defined i k) = is_handle k
of_handle h = false

-- the number of a resource
abbrev pub name_number : Name → Option ℕ
name_number (number k) = Some k
name_number r = None

abbrev pub reference_number : Head Name Name → Parts Name Name → Option ℕ
reference_number (resource r s) none = name_number r
reference_number h ps = None

abbrev pub resource_number : Tree Name Name → Option ℕ
resource_number (node h ps) = reference_number h ps

abbrev pub label_of : Role → Option (Option Text)
label_of here = Some None
label_of (label l) = Some (Some l)
label_of r = None

abbrev pub entry_if : Option (Option Text) → Option ℕ → Option Entry
entry_if None o = None
entry_if (Some l) None = None
entry_if (Some l) (Some k) = Some (l, k)

abbrev pub entries_if : Option Entry → Option (List Entry) → Option (List Entry)
entries_if None o = None
entries_if (Some e) None = None
entries_if (Some e) (Some es) = Some (e ∷ es)

abbrev pub leaf_if : Option PrimitiveValType → Option (List Entry) → Option ℕ
leaf_if l (Some []) = Some (leaf_number l)
leaf_if l o = None

abbrev pub code_if : Codes → Former → Option (List Entry) → Option ℕ
code_if m k None = None
code_if m k (Some es) = m (code_of k es)

-- a named primitive has the number of the primitive
abbrev pub form_if : Codes → Option PrimitiveValType → Former → Option (List Entry) → Option ℕ
form_if m (Some p) k o = leaf_if (Some p) o
form_if m None k o = code_if m k o

abbrev pub number_if : Codes → Head Name Name → Option (List Entry) → Option ℕ
number_if m nothing o = leaf_if None o
number_if m (primitive p) o = leaf_if (Some p) o
number_if m (defined i k) o = form_if m (form_primitive k) k o
number_if m h o = None

abbrev mutual
  -- the number of the shape, where the code of each defined type in it has one: that of its code, and of a leaf its own
  pub shape_number : Codes → Tree Name Name → Option ℕ
  shape_number m (node h ps) = number_if m h (part_entries m (of_handle h) ps)

  -- the parts of a handle are references to resources, those of others value types
  pub part_entries : Codes → Bool → Parts Name Name → Option (List Entry)
  part_entries m b none = Some []
  part_entries m b (part r t ps) = entries_if (entry_if (label_of r) (cond b (resource_number t) (shape_number m t))) (part_entries m b ps)

-- ## A table of numbers

abbrev pub code_cmp : Code → Code → Ordering
code_cmp c d = ordering_then (slice_cmp nat_cmp c.0 d.0) (slice_cmp nat_cmp c.1 d.1)

abbrev pub codes_in : BTreeMap Key ℕ → Codes
codes_in m c = get_by (λ k. code_cmp c (k.0.items, k.1.items)) m

-- the defined type at the place has the number
pub record IsGiven (m : Codes) (xs : List Node) (g : Given) : Type 0 where
  pub shape : ComponentDefinedType
  pub there : slice_get xs g.place ≡ Some (n.Defined shape)
  pub number : shape_number m (tree_in (trees xs) g.place) ≡ Some g.number

-- the numbers in the table are right, for these nodes
pub record Numbered (xs : List Node) (t : ShapeNumbers) : Type 0 where
  pub apart : AreApart (codes_in t.codes)
  pub next : first_number ≤ t.next
  pub below : (c : Code) (k : ℕ) → codes_in t.codes c ≡ Some k → k < t.next
  pub given : (q : ℕ) (g : Given) → get nat_cmp t.given q ≡ Some g → IsGiven (codes_in t.codes) xs g
