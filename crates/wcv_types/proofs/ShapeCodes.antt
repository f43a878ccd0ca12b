-- How the code of a defined type is written, and what its number is then.
use Rattle.std.proofs.Common.{◌≡◌, ℕ, ◌+◌, ◌<◌, ◌≤◌, List, [], ◌∷◌, ◌++◌, length, take, take-suc, take_all, cond, refl, sym, ◌∙◌, ap, subst, append_assoc, add-one, Bool, true, false, Option, Some, None}
use Rattle.std.specs.Prelude.{Vec, slice_get}
use Rattle.std.specs.declared.alloc.Global.{Global}
use Rattle.std.specs.Option.{option_map}
use Rattle.std.proofs.lemmas.Option.{same_Some, slice_get_within, get_or_from_slice_get}
use Rattle.wcv_core.specs.Names.{Name}
use Rattle.wcv_core.specs.declared.primitive.PrimitiveValType.{PrimitiveValType}
use Rattle.wcv_types.specs.Alike.{form_primitive, form_names, role_of}
use Rattle.wcv_types.specs.Arena.{Arena}
use Rattle.wcv_types.specs.NamedBySet.{handle_of, node_id}
use Rattle.wcv_types.specs.ShapeNumbers.{Entry, Codes, Key, IsWritten, leaf_number, label_mark, label_bytes, entry_numbers, entry_bytes, name_entries, handle_entries, form_numbers, code_of, Keeps, is_handle, of_handle, resource_number, label_of, entry_if, entries_if, leaf_if, code_if, form_if, number_if, shape_number, part_entries}
use Rattle.wcv_types.specs.Tree.{Text, Former, Head, nothing, primitive, resource, defined, func, instance, component, type_entity, core_module, core_instance, core_type, core_item, Role, Tree, node, Parts, none, part}
use Rattle.wcv_types.specs.Unfold.{Type_tree, former_of, defined_slots, value_parts, value_slots, option_slot, slot_tree, slot_parts, trees, tree_at, unfolded}
use Rattle.wcv_types.specs.declared.arena.Node.TheVariants as n
use Rattle.wcv_types.specs.declared.ids.AliasableResourceId.{AliasableResourceId}
use Rattle.wcv_types.specs.declared.ids.ComponentDefinedTypeId.{ComponentDefinedTypeId}
use Rattle.wcv_types.specs.declared.ids.Part.TheVariants as p
use Rattle.wcv_types.specs.declared.shapes.ComponentDefinedType.{ComponentDefinedType}
use Rattle.wcv_types.specs.declared.shapes.ComponentDefinedType.TheVariants as d
use Rattle.wcv_types.specs.declared.shapes.ComponentValType.{ComponentValType}
use Rattle.wcv_types.proofs.NamedBySet.{is_node}

-- ## What is written

numbers-append : (es fs : List Entry) → entry_numbers (es ++ fs) ≡ entry_numbers es ++ entry_numbers fs
numbers-append [] fs = refl
numbers-append (e ∷ es) fs = ap (λ (ns : List ℕ). label_mark e.0 ∷ e.1 ∷ ns) (numbers-append es fs)

bytes-append : (es fs : List Entry) → entry_bytes (es ++ fs) ≡ entry_bytes es ++ entry_bytes fs
bytes-append [] fs = refl
bytes-append (e ∷ es) fs = ap (λ (bs : List ℕ). label_bytes e.0 ++ bs) (bytes-append es fs) ∙ sym (append_assoc (label_bytes e.0) (entry_bytes es) (entry_bytes fs))

pub nil_right : (xs : List ℕ) → xs ++ [] ≡ xs
nil_right [] = refl
nil_right (x ∷ xs) = ap (λ (ys : List ℕ). x ∷ ys) (nil_right xs)

-- one more entry
written_more : (old new : Key) (p : List ℕ) (es : List Entry) (l : Option Text) (k : ℕ) → IsWritten p es old → new.0.items ≡ old.0.items ++ label_mark l ∷ k ∷ [] → new.1.items ≡ old.1.items ++ label_bytes l → IsWritten p (es ++ (l, k) ∷ []) new
written_more old new p es l k w e f = record {
  numbers = e ∙ ap (λ (ns : List ℕ). ns ++ label_mark l ∷ k ∷ []) w.numbers ∙ append_assoc p (entry_numbers es) (label_mark l ∷ k ∷ []) ∙ ap (λ (ns : List ℕ). p ++ ns) (sym (numbers-append es ((l, k) ∷ [])));
  bytes = f ∙ ap (λ (bs : List ℕ). bs ++ label_bytes l) w.bytes ∙ ap (λ (bs : List ℕ). entry_bytes es ++ bs) (sym (nil_right (label_bytes l))) ∙ sym (bytes-append es ((l, k) ∷ []));
}

no_bytes : (h : Option AliasableResourceId) → entry_bytes (handle_entries h) ≡ []
no_bytes None = refl
no_bytes (Some r) = refl

-- a form, its names, and the resource of a handle
pub form_written : (k : Former) (h : Option AliasableResourceId) (ns : List Text) (o : Option AliasableResourceId) (a b d : Key) → ns ≡ form_names k → o ≡ h → a.0.items ≡ form_numbers k → a.1.items ≡ [] →
    b.0.items ≡ a.0.items ++ entry_numbers (name_entries ns) → b.1.items ≡ a.1.items ++ entry_bytes (name_entries ns) → d.0.items ≡ b.0.items ++ entry_numbers (handle_entries o) → d.1 ≡ b.1 →
    IsWritten (form_numbers k) (name_entries (form_names k) ++ handle_entries h) d
form_written k h ns o a b d n i a0 a1 b0 b1 d0 d1 =
    let es : List Entry = name_entries (form_names k) in
    let hs : List Entry = handle_entries h in
    record {
      numbers = d0 ∙ (λ j. (b0 ∙ (λ x. a0 x ++ entry_numbers (name_entries (n x)))) j ++ entry_numbers (handle_entries (i j))) ∙ append_assoc (form_numbers k) (entry_numbers es) (entry_numbers hs) ∙ ap (λ (ms : List ℕ). form_numbers k ++ ms) (sym (numbers-append es hs));
      bytes = ap (λ (x : Vec ℕ Global). x.items) d1 ∙ b1 ∙ (λ j. a1 j ++ entry_bytes (name_entries (n j))) ∙ sym (nil_right (entry_bytes es)) ∙ ap (λ (bs : List ℕ). entry_bytes es ++ bs) (sym (no_bytes h)) ∙ sym (bytes-append es hs);
    }

-- ## Numbers that stay

leaf_stays : (l : Option PrimitiveValType) (k : ℕ) (o o' : Option (List Entry)) → ((es : List Entry) → o ≡ Some es → o' ≡ Some es) → leaf_if l o ≡ Some k → leaf_if l o' ≡ Some k
leaf_stays l k None o' f i = cc
leaf_stays l k (Some []) o' f i = ap (leaf_if l) (f [] refl) ∙ i
leaf_stays l k (Some (x ∷ es)) o' f i = cc

code_stays : (m m' : Codes) → Keeps m m' → (g : Former) (k : ℕ) (o o' : Option (List Entry)) → ((es : List Entry) → o ≡ Some es → o' ≡ Some es) → code_if m g o ≡ Some k → code_if m' g o' ≡ Some k
code_stays m m' w g k None o' f i = cc
code_stays m m' w g k (Some es) o' f i = ap (code_if m' g) (f es refl) ∙ w (code_of g es) k i

form_stays : (m m' : Codes) → Keeps m m' → (q : Option PrimitiveValType) (g : Former) (k : ℕ) (o o' : Option (List Entry)) → ((es : List Entry) → o ≡ Some es → o' ≡ Some es) → form_if m q g o ≡ Some k → form_if m' q g o' ≡ Some k
form_stays m m' w None g k o o' f i = code_stays m m' w g k o o' f i
form_stays m m' w (Some q) g k o o' f i = leaf_stays (Some q) k o o' f i

head_stays : (m m' : Codes) → Keeps m m' → (h : Head Name Name) (k : ℕ) (o o' : Option (List Entry)) → ((es : List Entry) → o ≡ Some es → o' ≡ Some es) → number_if m h o ≡ Some k → number_if m' h o' ≡ Some k
head_stays m m' w nothing k o o' f i = leaf_stays None k o o' f i
head_stays m m' w (primitive q) k o o' f i = leaf_stays (Some q) k o o' f i
head_stays m m' w (defined x g) k o o' f i = form_stays m m' w (form_primitive g) g k o o' f i
head_stays m m' w (resource r s) k o o' f i = cc
head_stays m m' w (func x b) k o o' f i = cc
head_stays m m' w (instance x own) k o o' f i = cc
head_stays m m' w (component x ins outs) k o o' f i = cc
head_stays m m' w type_entity k o o' f i = cc
head_stays m m' w (core_module x j) k o o' f i = cc
head_stays m m' w (core_instance x j) k o o' f i = cc
head_stays m m' w (core_type x) k o o' f i = cc
head_stays m m' w (core_item x) k o o' f i = cc

value_stays : (c : Bool) (r o o' : Option ℕ) → ((k : ℕ) → o ≡ Some k → o' ≡ Some k) → (k : ℕ) → cond c r o ≡ Some k → cond c r o' ≡ Some k
value_stays true r o o' f k e = e
value_stays false r o o' f k e = f k e

part_stays : (l : Option (Option Text)) (o o' : Option ℕ) (u u' : Option (List Entry)) → ((k : ℕ) → o ≡ Some k → o' ≡ Some k) → ((es : List Entry) → u ≡ Some es → u' ≡ Some es) → (es : List Entry) → entries_if (entry_if l o) u ≡ Some es →
    entries_if (entry_if l o') u' ≡ Some es
part_stays None o o' u u' f g es e = cc
part_stays (Some l) None o' u u' f g es e = cc
part_stays (Some l) (Some k) o' None u' f g es e = cc
part_stays (Some l) (Some k) o' (Some fs) u' f g es e = ap (λ (x : Option ℕ). entries_if (entry_if (Some l) x) u') (f k refl) ∙ ap (entries_if (Some (l, k))) (g fs refl) ∙ e

mutual
  pub number_stays : (m m' : Codes) → Keeps m m' → (t : Tree Name Name) (k : ℕ) → shape_number m t ≡ Some k → shape_number m' t ≡ Some k
  number_stays m m' w (node h ps) k e = head_stays m m' w h k (part_entries m (of_handle h) ps) (part_entries m' (of_handle h) ps) (λ es f. entries_stay m m' w (of_handle h) ps es f) e

  entries_stay : (m m' : Codes) → Keeps m m' → (c : Bool) (ps : Parts Name Name) (es : List Entry) → part_entries m c ps ≡ Some es → part_entries m' c ps ≡ Some es
  entries_stay m m' w c none es e = e
  entries_stay m m' w c (part r t ps) es e =
      part_stays (label_of r) (cond c (resource_number t) (shape_number m t)) (cond c (resource_number t) (shape_number m' t)) (part_entries m c ps) (part_entries m' c ps)
      (λ k f. value_stays c (resource_number t) (shape_number m t) (shape_number m' t) (λ j g. number_stays m m' w t j g) k f) (λ fs f. entries_stay m m' w c ps fs f) es e

-- ## The value types that a defined type is made of

abbrev values_of : List Type_tree → List (Role × Option ComponentValType) → Parts Name Name
values_of ts xs = slot_parts ts (value_slots xs)

label_role : (l : Option Text) → label_of (role_of l) ≡ Some l
label_role None = refl
label_role (Some t) = refl

entry_behind : (o : Option Entry) (u u' : Option (List Entry)) (x : Entry) → ((fs : List Entry) → u ≡ Some fs → u' ≡ Some (fs ++ x ∷ [])) → (es : List Entry) → entries_if o u ≡ Some es → entries_if o u' ≡ Some (es ++ x ∷ [])
entry_behind None u u' x f es e = cc
entry_behind (Some a) None u' x f es e = cc
entry_behind (Some a) (Some fs) u' x f es e = ap (entries_if (Some a)) (f fs refl) ∙ ap (λ (ys : List Entry). Some (ys ++ x ∷ [])) (same_Some (a ∷ fs) es e)

entries_more : (m : Codes) (ts : List Type_tree) (xs : List (Role × Option ComponentValType)) (es : List Entry) (l : Option Text) (ty : Option ComponentValType) (k : ℕ) → part_entries m false (values_of ts xs) ≡ Some es →
    shape_number m (slot_tree ts (option_slot ty)) ≡ Some k → part_entries m false (values_of ts (xs ++ (role_of l, ty) ∷ [])) ≡ Some (es ++ (l, k) ∷ [])
entries_more m ts [] es l ty k e f =
    let s : [] ≡ es = same_Some [] es e in
    ap (λ (x : Option (Option Text)). entries_if (entry_if x (shape_number m (slot_tree ts (option_slot ty)))) (Some [])) (label_role l) ∙ ap (λ (x : Option ℕ). entries_if (entry_if (Some l) x) (Some [])) f ∙
    ap (λ (x : List Entry). Some (x ++ (l, k) ∷ [])) s
entries_more m ts (x ∷ xs) es l ty k e f =
    entry_behind (entry_if (label_of x.0) (shape_number m (slot_tree ts (option_slot x.1)))) (part_entries m false (values_of ts xs)) (part_entries m false (values_of ts (xs ++ (role_of l, ty) ∷ []))) (l, k)
    (λ fs g. entries_more m ts xs fs l ty k g f) es e

-- the entries of the first k of them are written behind what is written of the form
pub record Written (m : Codes) (ts : List Type_tree) (s : ComponentDefinedType) (k : ℕ) (key : Key) : Type 0 where
  pub entries : List Entry
  pub have : part_entries m false (values_of ts (take k (value_parts s))) ≡ Some entries
  pub written : IsWritten (form_numbers (former_of s)) (name_entries (form_names (former_of s)) ++ (handle_entries (handle_of s) ++ entries)) key

pair_at : (o : Option (Role × Option ComponentValType)) (r : Role) (ty : Option ComponentValType) → option_map (λ (q : Role × Option ComponentValType). q.0) o ≡ Some r → option_map (λ (q : Role × Option ComponentValType). q.1) o ≡ Some ty → o ≡ Some (r, ty)
pair_at None r ty e f = cc
pair_at (Some q) r ty e f =
    let a : q.0 ≡ r = cc in
    let b : q.1 ≡ ty = cc in
    (λ j. Some (a j, b j))

-- one more of them, and whatever codes were numbered meanwhile
pub written_next : (m m' : Codes) (ts : List Type_tree) (s : ComponentDefinedType) (k j : ℕ) (l : Option Text) (ty : Option ComponentValType) (old new : Key) → Keeps m m' →
    option_map (λ (q : Role × Option ComponentValType). q.0) (slice_get (value_parts s) k) ≡ Some (role_of l) → option_map (λ (q : Role × Option ComponentValType). q.1) (slice_get (value_parts s) k) ≡ Some ty →
    shape_number m' (slot_tree ts (option_slot ty)) ≡ Some j → new.0.items ≡ old.0.items ++ label_mark l ∷ j ∷ [] → new.1.items ≡ old.1.items ++ label_bytes l → Written m ts s k old → Written m' ts s (k + 1) new
written_next m m' ts s k j l ty old new kept e f g numbers bytes w =
    let x : Role × Option ComponentValType = (role_of l, ty) in
    let there : slice_get (value_parts s) k ≡ Some x = pair_at (slice_get (value_parts s) k) (role_of l) ty e f in
    let inside : k < length (value_parts s) = slice_get_within (value_parts s) k x there in
    let more : take (k + 1) (value_parts s) ≡ take k (value_parts s) ++ x ∷ [] =
    ap (λ (i : ℕ). take i (value_parts s)) (add-one k) ∙ take-suc (value_parts s) k x inside ∙ ap (λ (y : Role × Option ComponentValType). take k (value_parts s) ++ y ∷ []) (get_or_from_slice_get (value_parts s) k x x there) in
    let h : List Entry = handle_entries (handle_of s) in
    let ns : List Entry = name_entries (form_names (former_of s)) in
    record {
      entries = w.entries ++ (l, j) ∷ [];
      have = ap (λ (xs : List (Role × Option ComponentValType)). part_entries m' false (values_of ts xs)) more ∙ entries_more m' ts (take k (value_parts s)) w.entries l ty j (entries_stay m m' kept false (values_of ts (take k (value_parts s))) w.entries w.have) g;
      written = subst (λ (es : List Entry). IsWritten (form_numbers (former_of s)) es new) (append_assoc ns (h ++ w.entries) ((l, j) ∷ []) ∙ ap (λ (es : List Entry). ns ++ es) (append_assoc h w.entries ((l, j) ∷ []))) (written_more old new (form_numbers (former_of s)) (ns ++ (h ++ w.entries)) l j w.written numbers bytes);
    }

-- ## Nodes

whole_entries : (m : Codes) (ts : List Type_tree) (s : ComponentDefinedType) (es : List Entry) → part_entries m false (values_of ts (value_parts s)) ≡ Some es →
    part_entries m (is_handle (former_of s)) (slot_parts ts (defined_slots s)) ≡ Some (handle_entries (handle_of s) ++ es)
whole_entries m ts (d.Own a) es e = ap (λ (fs : List Entry). Some ((None, a.resource.index) ∷ fs)) (same_Some [] es e)
whole_entries m ts (d.Borrow a) es e = ap (λ (fs : List Entry). Some ((None, a.resource.index) ∷ fs)) (same_Some [] es e)
whole_entries m ts (d.Primitive a) es e = e
whole_entries m ts (d.Record a) es e = e
whole_entries m ts (d.Variant a) es e = e
whole_entries m ts (d.List a) es e = e
whole_entries m ts (d.Map a b) es e = e
whole_entries m ts (d.FixedLengthList a b) es e = e
whole_entries m ts (d.Tuple a) es e = e
whole_entries m ts (d.Flags a) es e = e
whole_entries m ts (d.Enum a) es e = e
whole_entries m ts (d.Option a) es e = e
whole_entries m ts (d.Result a b) es e = e
whole_entries m ts (d.Future a) es e = e
whole_entries m ts (d.Stream a) es e = e

-- the number of a defined type is that of its code
pub node_number : (m m' : Codes) (a : Arena) (i : ComponentDefinedTypeId) (s : ComponentDefinedType) (k j : ℕ) (key : Key) → Keeps m m' → tree_at a (p.Defined i) ≡ unfolded a i.index (n.Defined s) → form_primitive (former_of s) ≡ None →
    length (value_parts s) ≤ k → Written m (trees a.nodes) s k key → m' (key.0.items, key.1.items) ≡ Some j → shape_number m' (tree_at a (p.Defined i)) ≡ Some j
node_number m m' a i s k j key kept at_s plain h w e =
    let ts : List Type_tree = trees a.nodes in
    let all : part_entries m false (values_of ts (value_parts s)) ≡ Some w.entries = ap (λ (xs : List (Role × Option ComponentValType)). part_entries m false (values_of ts xs)) (sym (take_all k (value_parts s) h)) ∙ w.have in
    let es : List Entry = handle_entries (handle_of s) ++ w.entries in
    let whole : part_entries m' (is_handle (former_of s)) (slot_parts ts (defined_slots s)) ≡ Some es = whole_entries m' ts s w.entries (entries_stay m m' kept false (values_of ts (value_parts s)) w.entries all) in
    let code : (key.0.items, key.1.items) ≡ code_of (former_of s) es = λ x. (w.written.numbers x, w.written.bytes x) in
    ap (shape_number m') at_s ∙ ap (λ (q : Option PrimitiveValType). form_if m' q (former_of s) (part_entries m' (is_handle (former_of s)) (slot_parts ts (defined_slots s)))) plain ∙
    ap (code_if m' (former_of s)) whole ∙ ap m' (sym code) ∙ e

named_entries : (m : Codes) (ts : List Type_tree) (s : ComponentDefinedType) (q : PrimitiveValType) → form_primitive (former_of s) ≡ Some q → part_entries m (is_handle (former_of s)) (slot_parts ts (defined_slots s)) ≡ Some []
named_entries m ts (d.Primitive a) q e = refl
named_entries m ts (d.Own a) q e = cc
named_entries m ts (d.Borrow a) q e = cc
named_entries m ts (d.Record a) q e = cc
named_entries m ts (d.Variant a) q e = cc
named_entries m ts (d.List a) q e = cc
named_entries m ts (d.Map a b) q e = cc
named_entries m ts (d.FixedLengthList a b) q e = cc
named_entries m ts (d.Tuple a) q e = cc
named_entries m ts (d.Flags a) q e = cc
named_entries m ts (d.Enum a) q e = cc
named_entries m ts (d.Option a) q e = cc
named_entries m ts (d.Result a b) q e = cc
named_entries m ts (d.Future a) q e = cc
named_entries m ts (d.Stream a) q e = cc

-- so of a named primitive
pub named_number : (m : Codes) (a : Arena) (i : ComponentDefinedTypeId) (s : ComponentDefinedType) (q : PrimitiveValType) → tree_at a (p.Defined i) ≡ unfolded a i.index (n.Defined s) → form_primitive (former_of s) ≡ Some q →
    shape_number m (tree_at a (p.Defined i)) ≡ Some (leaf_number (Some q))
named_number m a i s q at_s e =
    ap (shape_number m) at_s ∙ ap (λ (x : Option PrimitiveValType). form_if m x (former_of s) (part_entries m (is_handle (former_of s)) (slot_parts (trees a.nodes) (defined_slots s)))) e ∙
    ap (leaf_if (Some q)) (named_entries m (trees a.nodes) s q e)

-- equal nodes have one number
pub shared_number : (m : Codes) (a : Arena) (i j : ComponentDefinedTypeId) (x y : ComponentDefinedType) (k : ℕ) → slice_get a.nodes i.index ≡ slice_get a.nodes j.index → slice_get a.nodes i.index ≡ Some (n.Defined x) →
    slice_get a.nodes j.index ≡ Some (n.Defined y) → tree_at a (p.Defined i) ≡ unfolded a i.index (n.Defined x) → tree_at a (p.Defined j) ≡ unfolded a j.index (n.Defined y) → shape_number m (tree_at a (p.Defined j)) ≡ Some k →
    shape_number m (tree_at a (p.Defined i)) ≡ Some k
shared_number m a i j x y k s x_there y_there at_i at_j e =
    let one : Some (n.Defined x) ≡ Some (n.Defined y) = sym x_there ∙ s ∙ y_there in
    let same : x ≡ y = cc in
    let moved : shape_number m (unfolded a i.index (n.Defined y)) ≡ shape_number m (unfolded a j.index (n.Defined y)) = refl in
    ap (shape_number m) at_i ∙ ap (λ (z : ComponentDefinedType). shape_number m (unfolded a i.index (n.Defined z))) same ∙ moved ∙ sym (ap (shape_number m) at_j) ∙ e

-- the number of a value type that is a node
pub value_is_node : (m : Codes) (a : Arena) (ty : Option ComponentValType) (i : ComponentDefinedTypeId) (k : ℕ) → node_id ty ≡ Some i → shape_number m (tree_at a (p.Defined i)) ≡ Some k → shape_number m (slot_tree (trees a.nodes) (option_slot ty)) ≡ Some k
value_is_node m a ty i k e f = ap (λ (x : Option ComponentValType). shape_number m (slot_tree (trees a.nodes) (option_slot x))) (is_node ty i e) ∙ f
