-- Value types have one number where they are the same, identities aside.
use Rattle.std.proofs.Common.{◌≡◌, ℕ, suc, ◌<◌, List, [], ◌∷◌, ◌++◌, length, get_or, cond, refl, sym, ◌∙◌, ap, arith, Bool, true, false, eqb, Option, Some, None, inl, inr}
use Rattle.std.specs.Prelude.{◌⊎◌}
use Rattle.std.proofs.lemmas.Bool.{eqb-true, eq-eqb}
use Rattle.std.specs.Bool.{Decides}
use Rattle.wcv_core.specs.Names.{Name, number, stamp, base, at, stamped, aside}
use Rattle.wcv_core.specs.declared.primitive.PrimitiveValType.{PrimitiveValType}
use Rattle.wcv_core.specs.declared.primitive.PrimitiveValType.TheVariants as prim
use Rattle.wcv_types.specs.Alike.{Alike, form_number, form_primitive, form_length, form_names}
use Rattle.wcv_types.specs.Seen.{Within, outer, seen, seen_parts, seen_defined}
use Rattle.wcv_types.specs.ShapeNumbers.{Entry, Code, Codes, leaf_number, first_number, label_mark, label_bytes, entry_numbers, entry_bytes, name_entries, form_numbers, code_of, AreApart, is_handle, of_handle, name_number, reference_number, resource_number, label_of, entry_if, entries_if, leaf_if, code_if, form_if, number_if, shape_number, part_entries}
use Rattle.wcv_types.proofs.SameTypes.{same_former}
use Rattle.wcv_types.specs.Tree.{Text, Former, named, record_of, variant_of, list_of, map_of, tuple_of, option_of, result_of, own_of, borrow_of, future_of, stream_of, fixed_list_of, flags_of, enum_of, Head, nothing, primitive, resource, defined, func, instance, component, type_entity, core_module, core_instance, core_type, core_item, Role, here, label, import, export, core_import, core_export, Tree, node, Parts, none, part}

-- ## Codes

length_append : {A : Type 0} (xs ys us vs : List A) → length xs ≡ length us → xs ++ ys ≡ us ++ vs → (xs ≡ us) × (ys ≡ vs)
length_append [] ys [] vs l e = (refl, e)
length_append [] ys (u ∷ us) vs l e = absurd (omega (arith, l))
length_append (x ∷ xs) ys [] vs l e = absurd (omega (arith, l))
length_append {A} (x ∷ xs) ys (u ∷ us) vs l e =
    let h : x ≡ u = cc in
    let t : xs ++ ys ≡ us ++ vs = cc in
    let w = length_append xs ys us vs (omega (arith, l)) t in
    ((λ j. h j ∷ w.0 j), w.1)

cons_head : (a b : ℕ) (xs ys : List ℕ) → a ∷ xs ≡ b ∷ ys → a ≡ b
cons_head a b xs ys e = cc

cons_tail : (a b : ℕ) (xs ys : List ℕ) → a ∷ xs ≡ b ∷ ys → xs ≡ ys
cons_tail a b xs ys e = cc

same_entry : (l m : Option Text) (a b : ℕ) (es fs : List Entry) → label_mark l ≡ label_mark m → label_bytes l ++ entry_bytes es ≡ label_bytes m ++ entry_bytes fs → (l ≡ m) × (entry_bytes es ≡ entry_bytes fs)
same_entry None None a b es fs k e = (refl, e)
same_entry None (Some t) a b es fs k e = absurd (omega (arith, k))
same_entry (Some s) None a b es fs k e = absurd (omega (arith, k))
same_entry (Some s) (Some t) a b es fs k e =
    let w = length_append s (entry_bytes es) t (entry_bytes fs) (omega (arith, k)) e in
    (ap Some w.0, w.1)

same_entries : (es fs : List Entry) → entry_numbers es ≡ entry_numbers fs → entry_bytes es ≡ entry_bytes fs → es ≡ fs
same_entries [] [] e f = refl
same_entries [] (y ∷ fs) e f = cc
same_entries (x ∷ es) [] e f = cc
same_entries (x ∷ es) (y ∷ fs) e f =
    let mark : label_mark x.0 ≡ label_mark y.0 = cons_head _ _ _ _ e in
    let rest : x.1 ∷ entry_numbers es ≡ y.1 ∷ entry_numbers fs = cons_tail _ _ _ _ e in
    let n : x.1 ≡ y.1 = cons_head _ _ _ _ rest in
    let w = same_entry x.0 y.0 x.1 y.1 es fs mark f in
    let more : es ≡ fs = same_entries es fs (cons_tail _ _ _ _ rest) w.1 in
    λ j. (w.0 j, n j) ∷ more j

length_names : (ns : List Text) → length (name_entries ns) ≡ length ns
length_names [] = refl
length_names (n ∷ ns) = ap suc (length_names ns)

same_names : (ns ms : List Text) → name_entries ns ≡ name_entries ms → ns ≡ ms
same_names [] [] e = refl
same_names [] (m ∷ ms) e = cc
same_names (n ∷ ns) [] e = cc
same_names (n ∷ ns) (m ∷ ms) e =
    let f : (Some n, 0) ≡ (Some m, 0) = cc in
    let g : Some n ≡ Some m = ap (λ (x : Entry). x.0) f in
    let h : n ≡ m = cc in
    let t : name_entries ns ≡ name_entries ms = cc in
    let r : ns ≡ ms = same_names ns ms t in
    λ j. h j ∷ r j

append_front : (xs ys us vs : List ℕ) → length xs ≡ length us → xs ++ ys ≡ us ++ vs → (xs ≡ us) × (ys ≡ vs)
append_front xs ys us vs l e = length_append xs ys us vs l e

-- codes of one another's forms and entries are told apart
pub same_code : (k l : Former) (es fs : List Entry) → form_primitive k ≡ None → form_primitive l ≡ None → code_of k es ≡ code_of l fs → (k ≡ l) × (es ≡ fs)
same_code k l es fs p q e =
    let numbers : (form_numbers k ++ entry_numbers (name_entries (form_names k) ++ es)) ≡ (form_numbers l ++ entry_numbers (name_entries (form_names l) ++ fs)) = ap (λ (c : Code). c.0) e in
    let bytes : entry_bytes (name_entries (form_names k) ++ es) ≡ entry_bytes (name_entries (form_names l) ++ fs) = ap (λ (c : Code). c.1) e in
    let w = append_front (form_numbers k) _ (form_numbers l) _ refl numbers in
    let form : form_number k ≡ form_number l = cons_head _ _ _ _ w.0 in
    let w1 : form_length k ∷ length (form_names k) ∷ [] ≡ form_length l ∷ length (form_names l) ∷ [] = cons_tail _ _ _ _ w.0 in
    let len : form_length k ≡ form_length l = cons_head _ _ _ _ w1 in
    let count : length (form_names k) ≡ length (form_names l) = cons_head _ _ _ _ (cons_tail _ _ _ _ w1) in
    let all : name_entries (form_names k) ++ es ≡ name_entries (form_names l) ++ fs = same_entries _ _ w.1 bytes in
    let v = length_append (name_entries (form_names k)) es (name_entries (form_names l)) fs (length_names (form_names k) ∙ count ∙ sym (length_names (form_names l))) all in
    (same_former k l form (p ∙ sym q) len (same_names (form_names k) (form_names l) v.0), v.1)

-- ## Leaves

leaf_low : (l : Option PrimitiveValType) → leaf_number l < first_number
leaf_low None = omega arith
leaf_low (Some prim.Bool) = omega arith
leaf_low (Some prim.S8) = omega arith
leaf_low (Some prim.U8) = omega arith
leaf_low (Some prim.S16) = omega arith
leaf_low (Some prim.U16) = omega arith
leaf_low (Some prim.S32) = omega arith
leaf_low (Some prim.U32) = omega arith
leaf_low (Some prim.S64) = omega arith
leaf_low (Some prim.U64) = omega arith
leaf_low (Some prim.F32) = omega arith
leaf_low (Some prim.F64) = omega arith
leaf_low (Some prim.Char) = omega arith
leaf_low (Some prim.String) = omega arith
leaf_low (Some prim.ErrorContext) = omega arith

leaf_at : ℕ → Option PrimitiveValType
leaf_at k = get_or (None ∷ Some prim.Bool ∷ Some prim.S8 ∷ Some prim.U8 ∷ Some prim.S16 ∷ Some prim.U16 ∷ Some prim.S32 ∷ Some prim.U32 ∷ Some prim.S64 ∷ Some prim.U64 ∷ Some prim.F32 ∷ Some prim.F64 ∷ Some prim.Char ∷ Some prim.String ∷ Some prim.ErrorContext ∷ []) k None

leaf_back : (l : Option PrimitiveValType) → leaf_at (leaf_number l) ≡ l
unfolding leaf_at
leaf_back None = refl
leaf_back (Some prim.Bool) = refl
leaf_back (Some prim.S8) = refl
leaf_back (Some prim.U8) = refl
leaf_back (Some prim.S16) = refl
leaf_back (Some prim.U16) = refl
leaf_back (Some prim.S32) = refl
leaf_back (Some prim.U32) = refl
leaf_back (Some prim.S64) = refl
leaf_back (Some prim.U64) = refl
leaf_back (Some prim.F32) = refl
leaf_back (Some prim.F64) = refl
leaf_back (Some prim.Char) = refl
leaf_back (Some prim.String) = refl
leaf_back (Some prim.ErrorContext) = refl

same_leaf : (l k : Option PrimitiveValType) → leaf_number l ≡ leaf_number k → l ≡ k
same_leaf l k e = sym (leaf_back l) ∙ ap leaf_at e ∙ leaf_back k

abbrev Seen_head : Type 0
Seen_head = Head (Within Name) (Unit {0})

abbrev Seen_parts : Type 0
Seen_parts = Parts (Within Name) (Unit {0})

leaf_head : Option PrimitiveValType → Seen_head
leaf_head None = nothing
leaf_head (Some p) = primitive p

abbrev formed_head : Former → Seen_head
formed_head k = defined tt k

same_heads : (h g : Seen_head) (ps qs : Seen_parts) → node h ps ≡ node g qs → h ≡ g
same_heads h g ps qs e = cc

same_below : (h g : Seen_head) (ps qs : Seen_parts) → node h ps ≡ node g qs → ps ≡ qs
same_below h g ps qs e = cc

same_leaf_head : (l k : Option PrimitiveValType) → leaf_head l ≡ leaf_head k → l ≡ k
unfolding leaf_head
same_leaf_head None None e = refl
same_leaf_head None (Some q) e = cc
same_leaf_head (Some p) None e = cc
same_leaf_head (Some p) (Some q) e = let s : p ≡ q = cc in ap Some s

leaf_is_no_form : (l : Option PrimitiveValType) (k : Former) → leaf_head l ≡ formed_head k → ⊥
unfolding leaf_head
leaf_is_no_form None k e = cc
leaf_is_no_form (Some p) k e = cc

same_form_head : (k l : Former) → formed_head k ≡ formed_head l → k ≡ l
same_form_head k l e = cc

-- ## What has a number

record LooksLeaf (h : Head Name Name) (o : Option (List Entry)) (k : ℕ) : Type 0 where
  leaf : Option PrimitiveValType
  seen_is : (ps : Parts Name Name) → seen outer (node h ps) ≡ node (leaf_head leaf) (seen_parts outer ps)
  alone : o ≡ Some []
  number : k ≡ leaf_number leaf

record LooksFormed (m : Codes) (h : Head Name Name) (o : Option (List Entry)) (k : ℕ) : Type 0 where
  former : Former
  entries : List Entry
  seen_is : (ps : Parts Name Name) → seen outer (node h ps) ≡ node (formed_head former) (seen_parts outer ps)
  handle : of_handle h ≡ is_handle former
  plain : form_primitive former ≡ None
  have : o ≡ Some entries
  number : m (code_of former entries) ≡ Some k

leaf_alone : (l : Option PrimitiveValType) (o : Option (List Entry)) (k : ℕ) → leaf_if l o ≡ Some k → (o ≡ Some []) × (k ≡ leaf_number l)
leaf_alone l None k e = cc
leaf_alone l (Some (x ∷ es)) k e = cc
leaf_alone l (Some []) k e = let f : k ≡ leaf_number l = cc in (refl, f)

abbrev prim_head : PrimitiveValType → Seen_head
prim_head p = primitive p

primitive_of : (k : Former) (p : PrimitiveValType) → form_primitive k ≡ Some p → seen_defined {A = Within Name} k ≡ primitive p
primitive_of (named q) p e = let s : q ≡ p = cc in ap prim_head s
primitive_of record_of p e = cc
primitive_of variant_of p e = cc
primitive_of list_of p e = cc
primitive_of map_of p e = cc
primitive_of tuple_of p e = cc
primitive_of option_of p e = cc
primitive_of result_of p e = cc
primitive_of own_of p e = cc
primitive_of borrow_of p e = cc
primitive_of future_of p e = cc
primitive_of stream_of p e = cc
primitive_of (fixed_list_of a) p e = cc
primitive_of (flags_of a) p e = cc
primitive_of (enum_of a) p e = cc

form_of : (k : Former) → form_primitive k ≡ None → seen_defined {A = Within Name} k ≡ defined tt k
form_of (named q) e = cc
form_of record_of e = refl
form_of variant_of e = refl
form_of list_of e = refl
form_of map_of e = refl
form_of tuple_of e = refl
form_of option_of e = refl
form_of result_of e = refl
form_of own_of e = refl
form_of borrow_of e = refl
form_of future_of e = refl
form_of stream_of e = refl
form_of (fixed_list_of a) e = refl
form_of (flags_of a) e = refl
form_of (enum_of a) e = refl

code_have : (m : Codes) (k : Former) (o : Option (List Entry)) (j : ℕ) → code_if m k o ≡ Some j → (es : List Entry) × (o ≡ Some es) × (m (code_of k es) ≡ Some j)
code_have m k None j e = cc
code_have m k (Some es) j e = (es, refl, e)

looks : (m : Codes) (h : Head Name Name) (o : Option (List Entry)) (k : ℕ) → number_if m h o ≡ Some k → LooksLeaf h o k ⊎ LooksFormed m h o k
unfolding leaf_head
looks m nothing o k e =
    let w = leaf_alone None o k e in
    inl (record { leaf = None; seen_is = λ ps. refl; alone = w.0; number = w.1 })
looks m (primitive p) o k e =
    let w = leaf_alone (Some p) o k e in
    inl (record { leaf = Some p; seen_is = λ ps. refl; alone = w.0; number = w.1 })
looks m (defined i f) o k e = go (form_primitive f) refl e
  where
    go : (x : Option PrimitiveValType) → form_primitive f ≡ x → form_if m x f o ≡ Some k → LooksLeaf (defined i f) o k ⊎ LooksFormed m (defined i f) o k
    go None s t =
        let w = code_have m f o k t in
        inr (record { former = f; entries = w.0; seen_is = λ ps. ap (λ (x : Seen_head). node x (seen_parts outer ps)) (form_of f s); handle = refl; plain = s; have = w.1; number = w.2 })
    go (Some p) s t =
        let w = leaf_alone (Some p) o k t in
        inl (record { leaf = Some p; seen_is = λ ps. ap (λ (x : Seen_head). node x (seen_parts outer ps)) (primitive_of f p s); alone = w.0; number = w.1 })
looks m (resource r s) o k e = cc
looks m (func i b) o k e = cc
looks m (instance i own) o k e = cc
looks m (component i ins outs) o k e = cc
looks m type_entity o k e = cc
looks m (core_module i j) o k e = cc
looks m (core_instance i j) o k e = cc
looks m (core_type i) o k e = cc
looks m (core_item x) o k e = cc

-- ## Parts

entries_inside : (x : Option Entry) (o : Option (List Entry)) (es : List Entry) → entries_if x o ≡ Some es → (e : Entry) × (fs : List Entry) × (x ≡ Some e) × (o ≡ Some fs) × (es ≡ e ∷ fs)
entries_inside None o es h = cc
entries_inside (Some e) None es h = cc
entries_inside (Some e) (Some fs) es h = let s : es ≡ e ∷ fs = cc in (e, fs, refl, refl, s)

entry_inside : (l : Option (Option Text)) (o : Option ℕ) (e : Entry) → entry_if l o ≡ Some e → (l ≡ Some e.0) × (o ≡ Some e.1)
entry_inside None o e h = cc
entry_inside (Some l) None e h = cc
entry_inside (Some l) (Some k) e h = let s : (l, k) ≡ e = cc in (ap (λ (x : Entry). Some x.0) s, ap (λ (x : Entry). Some x.1) s)

no_parts : (m : Codes) (c : Bool) (ps : Parts Name Name) → part_entries m c ps ≡ Some [] → ps ≡ none
no_parts m c none e = refl
no_parts m c (part r t ps) e =
    let w = entries_inside (entry_if (label_of r) (cond c (resource_number t) (shape_number m t))) (part_entries m c ps) [] e in
    let f : [] ≡ w.0 ∷ w.1 = w.4 in
    cc

label_role : Option Text → Role
label_role None = here
label_role (Some t) = label t

role_is : (r : Role) (l : Option Text) → label_of r ≡ Some l → r ≡ label_role l
unfolding label_role
role_is here l e = let s : None ≡ l = cc in ap label_role s
role_is (label t) l e = let s : Some t ≡ l = cc in ap label_role s
role_is (import x) l e = cc
role_is (export x) l e = cc
role_is (core_import a b) l e = cc
role_is (core_export a) l e = cc

atom : ℕ → Tree (Within Name) (Unit {0})
atom k = node (resource (outer (number k)) tt) none

same_atom : (a b : ℕ) → atom a ≡ atom b → a ≡ b
unfolding atom
same_atom a b e =
    let f : resource (outer (number a)) tt ≡ resource (outer (number b)) tt = same_heads _ _ none none e in
    let g : outer (number a) ≡ outer (number b) = cc in
    let h : number a ≡ number b = cc in
    cc

named_so : (r : Name) (k : ℕ) → name_number r ≡ Some k → r ≡ number k
named_so (number j) k e = let s : j ≡ k = cc in ap number s
named_so (stamp j) k e = cc
named_so (base p) k e = cc
named_so (at p r) k e = cc
named_so (stamped p) k e = cc
named_so (aside r) k e = cc

reference_is : (h : Head Name Name) (ps : Parts Name Name) (k : ℕ) → reference_number h ps ≡ Some k → seen outer (node h ps) ≡ atom k
unfolding atom
reference_is (resource r s) none k e = ap (λ (x : Name). node (resource (outer x) tt) none) (named_so r k e)
reference_is (resource r s) (part q t ps) k e = cc
reference_is nothing ps k e = cc
reference_is (primitive p) ps k e = cc
reference_is (defined i f) ps k e = cc
reference_is (func i b) ps k e = cc
reference_is (instance i own) ps k e = cc
reference_is (component i ins outs) ps k e = cc
reference_is type_entity ps k e = cc
reference_is (core_module i j) ps k e = cc
reference_is (core_instance i j) ps k e = cc
reference_is (core_type i) ps k e = cc
reference_is (core_item x) ps k e = cc

resource_is : (t : Tree Name Name) (k : ℕ) → resource_number t ≡ Some k → seen outer t ≡ atom k
resource_is (node h ps) k e = reference_is h ps k e

-- ## The law

-- to: what is seen is the same; back: the numbers are
abbrev Agree : {X Y : Type 0} → X → X → Y → Y → Type 0
Agree a b s t = (a ≡ b → s ≡ t) × (s ≡ t → a ≡ b)

module _ (m : Codes) (w : AreApart m) where
  module _ (h g : Head Name Name) (ps qs : Parts Name Name) (a b : ℕ)
      (rest : (c : Bool) (es fs : List Entry) → part_entries m c ps ≡ Some es → part_entries m c qs ≡ Some fs → Agree es fs (seen_parts {A = Name} outer ps) (seen_parts outer qs)) where
    leaves : LooksLeaf h (part_entries m (of_handle h) ps) a → LooksLeaf g (part_entries m (of_handle g) qs) b → Agree a b (seen outer (node h ps)) (seen outer (node g qs))
    leaves x y =
        let p : ps ≡ none = no_parts m (of_handle h) ps x.alone in
        let q : qs ≡ none = no_parts m (of_handle g) qs y.alone in (
          λ e.
              let l : x.leaf ≡ y.leaf = same_leaf x.leaf y.leaf (sym x.number ∙ e ∙ y.number) in
              x.seen_is ps ∙ (λ j. node (leaf_head (l j)) (seen_parts outer ((p ∙ sym q) j))) ∙ sym (y.seen_is qs),
          λ e.
              let l : x.leaf ≡ y.leaf = same_leaf_head x.leaf y.leaf (same_heads _ _ _ _ (sym (x.seen_is ps) ∙ e ∙ y.seen_is qs)) in
              x.number ∙ ap leaf_number l ∙ sym y.number,
        )

    leaf_form : LooksLeaf h (part_entries m (of_handle h) ps) a → LooksFormed m g (part_entries m (of_handle g) qs) b → Agree a b (seen outer (node h ps)) (seen outer (node g qs))
    leaf_form x y = (
      λ e. absurd (omega (arith, e, x.number, leaf_low x.leaf, w.above (code_of y.former y.entries) b y.number)),
      λ e. absurd (leaf_is_no_form x.leaf y.former (same_heads _ _ _ _ (sym (x.seen_is ps) ∙ e ∙ y.seen_is qs))),
    )

    form_leaf : LooksFormed m h (part_entries m (of_handle h) ps) a → LooksLeaf g (part_entries m (of_handle g) qs) b → Agree a b (seen outer (node h ps)) (seen outer (node g qs))
    form_leaf x y = (
      λ e. absurd (omega (arith, e, y.number, leaf_low y.leaf, w.above (code_of x.former x.entries) a x.number)),
      λ e. absurd (leaf_is_no_form y.leaf x.former (same_heads _ _ _ _ (sym (y.seen_is qs) ∙ sym e ∙ x.seen_is ps))),
    )

    forms : LooksFormed m h (part_entries m (of_handle h) ps) a → LooksFormed m g (part_entries m (of_handle g) qs) b → Agree a b (seen outer (node h ps)) (seen outer (node g qs))
    forms x y =
        let p : part_entries m (is_handle x.former) ps ≡ Some x.entries = ap (λ (c : Bool). part_entries m c ps) (sym x.handle) ∙ x.have in
        let q : part_entries m (is_handle y.former) qs ≡ Some y.entries = ap (λ (c : Bool). part_entries m c qs) (sym y.handle) ∙ y.have in (
          λ e.
              let codes : code_of x.former x.entries ≡ code_of y.former y.entries = w.one _ _ a x.number (y.number ∙ ap Some (sym e)) in
              let s = same_code x.former y.former x.entries y.entries x.plain y.plain codes in
              let q' : part_entries m (is_handle x.former) qs ≡ Some y.entries = ap (λ (k : Former). part_entries m (is_handle k) qs) s.0 ∙ q in
              let below : seen_parts outer ps ≡ seen_parts outer qs = (rest (is_handle x.former) x.entries y.entries p q').0 s.1 in
              x.seen_is ps ∙ (λ j. node (formed_head (s.0 j)) (below j)) ∙ sym (y.seen_is qs),
          λ e.
              let whole : node (formed_head x.former) (seen_parts outer ps) ≡ node (formed_head y.former) (seen_parts outer qs) = sym (x.seen_is ps) ∙ e ∙ y.seen_is qs in
              let f : x.former ≡ y.former = same_form_head x.former y.former (same_heads _ _ _ _ whole) in
              let q' : part_entries m (is_handle x.former) qs ≡ Some y.entries = ap (λ (k : Former). part_entries m (is_handle k) qs) f ∙ q in
              let es : x.entries ≡ y.entries = (rest (is_handle x.former) x.entries y.entries p q').1 (same_below _ _ _ _ whole) in
              same_some a b (sym x.number ∙ (λ j. m (code_of (f j) (es j))) ∙ y.number),
        )
      where
        same_some : (i j : ℕ) → Some i ≡ Some j → i ≡ j
        same_some i j e = cc

    whole_types : LooksLeaf h (part_entries m (of_handle h) ps) a ⊎ LooksFormed m h (part_entries m (of_handle h) ps) a → LooksLeaf g (part_entries m (of_handle g) qs) b ⊎ LooksFormed m g (part_entries m (of_handle g) qs) b →
        Agree a b (seen outer (node h ps)) (seen outer (node g qs))
    whole_types (inl x) (inl y) = leaves x y
    whole_types (inl x) (inr y) = leaf_form x y
    whole_types (inr x) (inl y) = form_leaf x y
    whole_types (inr x) (inr y) = forms x y

  -- of two parts and those behind them
  module _ (r q : Role) (t u : Tree Name Name) (ps qs : Parts Name Name) (c : Bool)
      (first : (a b : ℕ) → shape_number m t ≡ Some a → shape_number m u ≡ Some b → Agree a b (seen {A = Name} outer t) (seen outer u))
      (rest : (es fs : List Entry) → part_entries m c ps ≡ Some es → part_entries m c qs ≡ Some fs → Agree es fs (seen_parts {A = Name} outer ps) (seen_parts outer qs)) where
    value_of : Bool → Tree Name Name → Option ℕ
    value_of d s = cond d (resource_number s) (shape_number m s)

    both_values : (d : Bool) (a b : ℕ) → value_of d t ≡ Some a → value_of d u ≡ Some b → Agree a b (seen {A = Name} outer t) (seen outer u)
    unfolding value_of
    both_values false a b e f = first a b e f
    both_values true a b e f = (
      λ i. resource_is t a e ∙ ap atom i ∙ sym (resource_is u b f),
      λ i. same_atom a b (sym (resource_is t a e) ∙ i ∙ resource_is u b f),
    )

    both_parts : (es fs : List Entry) → part_entries m c (part r t ps) ≡ Some es → part_entries m c (part q u qs) ≡ Some fs → Agree es fs (seen_parts {A = Name} outer (part r t ps)) (seen_parts outer (part q u qs))
    unfolding value_of
    both_parts es fs e f =
        let x = entries_inside (entry_if (label_of r) (value_of c t)) (part_entries m c ps) es e in
        let y = entries_inside (entry_if (label_of q) (value_of c u)) (part_entries m c qs) fs f in
        let x' = entry_inside (label_of r) (value_of c t) x.0 x.2 in
        let y' = entry_inside (label_of q) (value_of c u) y.0 y.2 in
        let values = both_values c x.0.1 y.0.1 x'.1 y'.1 in
        let more = rest x.1 y.1 x.3 y.3 in (
          λ i.
              let s : x.0 ∷ x.1 ≡ y.0 ∷ y.1 = sym x.4 ∙ i ∙ y.4 in
              let s0 : x.0 ≡ y.0 = cc in
              let s1 : x.1 ≡ y.1 = cc in
              let role : r ≡ q = role_is r x.0.0 x'.0 ∙ ap (λ (z : Entry). label_role z.0) s0 ∙ sym (role_is q y.0.0 y'.0) in
              let tree = values.0 (ap (λ (z : Entry). z.1) s0) in
              let below = more.0 s1 in
              λ j. part (role j) (tree j) (below j),
          λ i.
              let role : r ≡ q = part_role _ _ _ _ _ _ i in
              let label_is : x.0.0 ≡ y.0.0 = same_some _ _ (sym x'.0 ∙ ap label_of role ∙ y'.0) in
              let value_is : x.0.1 ≡ y.0.1 = values.1 (part_tree _ _ _ _ _ _ i) in
              let below : x.1 ≡ y.1 = more.1 (part_rest _ _ _ _ _ _ i) in
              x.4 ∙ (λ j. (label_is j, value_is j) ∷ below j) ∙ sym y.4,
        )
      where
        same_some : (i j : Option Text) → Some i ≡ Some j → i ≡ j
        same_some i j e = cc

        part_role : (r q : Role) (t u : Tree (Within Name) (Unit {0})) (ps qs : Seen_parts) → part r t ps ≡ part q u qs → r ≡ q
        part_role r q t u ps qs e = cc

        part_tree : (r q : Role) (t u : Tree (Within Name) (Unit {0})) (ps qs : Seen_parts) → part r t ps ≡ part q u qs → t ≡ u
        part_tree r q t u ps qs e = cc

        part_rest : (r q : Role) (t u : Tree (Within Name) (Unit {0})) (ps qs : Seen_parts) → part r t ps ≡ part q u qs → ps ≡ qs
        part_rest r q t u ps qs e = cc

  no_entry : (x : Option Entry) (o : Option (List Entry)) → entries_if x o ≡ Some [] → ⊥
  no_entry None o e = cc
  no_entry (Some x) None e = cc
  no_entry (Some x) (Some es) e = cc

  mutual
    -- numbers of types are equal where the types are the same
    pub same_numbers : (s t : Tree Name Name) (a b : ℕ) → shape_number m s ≡ Some a → shape_number m t ≡ Some b → (a ≡ b → Alike s t) × (Alike s t → a ≡ b)
    same_numbers (node h ps) (node g qs) a b e f =
        whole_types h g ps qs a b (λ c es fs x y. same_parts ps qs c es fs x y) (looks m h (part_entries m (of_handle h) ps) a e) (looks m g (part_entries m (of_handle g) qs) b f)

    same_parts : (ps qs : Parts Name Name) (c : Bool) (es fs : List Entry) → part_entries m c ps ≡ Some es → part_entries m c qs ≡ Some fs → Agree es fs (seen_parts {A = Name} outer ps) (seen_parts outer qs)
    same_parts none none c es fs e f = (λ i. refl, λ i. same_some es fs (sym e ∙ f))
      where
        same_some : (i j : List Entry) → Some i ≡ Some j → i ≡ j
        same_some i j e = cc
    same_parts none (part q u qs) c es fs e f = (
      λ i. absurd (no_entry (entry_if (label_of q) (cond c (resource_number u) (shape_number m u))) (part_entries m c qs) (f ∙ ap Some (sym i) ∙ sym e)),
      λ i. cc,
    )
    same_parts (part r t ps) none c es fs e f = (
      λ i. absurd (no_entry (entry_if (label_of r) (cond c (resource_number t) (shape_number m t))) (part_entries m c ps) (e ∙ ap Some i ∙ sym f)),
      λ i. cc,
    )
    same_parts (part r t ps) (part q u qs) c es fs e f = both_parts r q t u ps qs c (λ i j x y. same_numbers t u i j x y) (λ xs ys x y. same_parts ps qs c xs ys x y) es fs e f

-- so a comparison of two numbers decides it
pub decides_same : (m : Codes) → AreApart m → (s t : Tree Name Name) (a b : ℕ) → shape_number m s ≡ Some a → shape_number m t ≡ Some b → Decides (eqb a b) (Alike s t)
decides_same m w s t a b e f =
    let law = same_numbers m w s t a b e f in
    (λ h. law.0 (eqb-true a b h), λ h. eq-eqb a b (law.1 h))
