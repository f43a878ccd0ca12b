-- The pass over entities by ids, case by case.
use Rattle.std.proofs.Common.{◌≡◌, ℕ, suc, ◌+◌, ◌≤◌, ◌<◌, List, [], ◌∷◌, length, drop, Bool, true, false, ◌&&◌, cond, bytes_eq, is_some, Option, None, Some, refl, sym, ◌∙◌, ap, subst, arith, Result, Ok, Err}
use Rattle.std.specs.Prelude.{All, IfOk, IfSome, slice_get}
use Rattle.std.specs.List.{list_all}
use Rattle.std.specs.Map.{lookup}
use Rattle.std.proofs.lemmas.List.{length-map}
use Rattle.std.proofs.lemmas.List.Elements.{All-nil, All-cons, All-head, All-tail}
use Rattle.std.proofs.lemmas.Map.Entries.{All-lookup}
use Rattle.wcv_core.specs.CoreForm.{Group}
use Rattle.std.proofs.lemmas.Bool.{false≢true}
use Rattle.wcv_types.specs.Arena.{Arena}
use Rattle.wcv_types.specs.Entities.{any_part, entity_slot, entity_tree, EntityStands, EntryStands, SlotStands}
use Rattle.wcv_types.specs.Sets.{resource_names}
use Rattle.wcv_types.specs.Standing.{Stands, StandsBefore}
use Rattle.wcv_types.specs.Seen.{seen}
use Rattle.wcv_types.specs.Tree.{Text, Extern_name, Role, export, head, sort}
use Rattle.wcv_types.specs.Unfold.{Type_tree, Slot, leaf, at, both, core, slot_refs, entry_slots, parts_in, parts_of, trees, tree_at, unfolded}
use Rattle.wcv_types.specs.declared.arena.Node.TheVariants as n
use Rattle.wcv_types.specs.declared.instance_type.ComponentInstanceType.{ComponentInstanceType}
use Rattle.wcv_types.specs.declared.item_map.ComponentItem.{ComponentItem}
use Rattle.wcv_types.specs.declared.ids.ComponentAnyTypeId.{ComponentAnyTypeId}
use Rattle.wcv_types.specs.declared.ids.ComponentCoreModuleTypeId.{ComponentCoreModuleTypeId}
use Rattle.wcv_types.specs.declared.ids.ComponentFuncTypeId.{ComponentFuncTypeId}
use Rattle.wcv_types.specs.declared.ids.ComponentInstanceTypeId.{ComponentInstanceTypeId}
use Rattle.wcv_types.specs.declared.ids.ComponentTypeId.{ComponentTypeId}
use Rattle.wcv_types.specs.declared.ids.Part.TheVariants as p
use Rattle.wcv_types.specs.declared.shapes.ComponentEntityType.{ComponentEntityType}
use Rattle.wcv_types.specs.declared.shapes.ComponentEntityType.TheVariants as entity
use Rattle.wcv_types.specs.declared.shapes.ComponentValType.{ComponentValType}
use Rattle.wcv_types.proofs.Gathered.{parts_ready}
use Rattle.wcv_types.proofs.Unfolding.{all_left, all_right, sort_stands}
use Rattle.wcv_matching.specs.AtomTests.{id_tests, same_seen}
use Rattle.wcv_atoms.specs.IdPasses.{Answers, AnswersEntries, AnswersTypes, StaysIf, entries_pass, modules_pass, named_trees, pass_below, tallest}
use Rattle.wcv_matching.specs.Matching.{Reading, outside, named_exports}
use Rattle.wcv_matching.specs.OnePass.{Atom, each_passes, found_in, owned_in, same_below, under_at}
use Rattle.wcv_matching.specs.Orderly.{height}
use Rattle.wcv_atoms.specs.Readings.{over, read_by}
use Rattle.wcv_atoms.proofs.PassSteps.{answers_at, entries_answer, modules_answer, funcs_answer, values_by_ids, types_answer, entries_split, exports_lower, found_passes, found_tree, instance_names, instance_under, no_tree, none_passes, tallest_at, tallest_found, tree_at_place}
use Rattle.wcv_atoms.proofs.Walking.{each_held, each_holds, one_does_not}

pub not_stays : (f g : Reading Atom) → StaysIf false f g
not_stays f g e = absurd (false≢true e)

pub if_ok : {T E : Type 0} {P Q : T → Type 0} (r : Result T E) → ((x : T) → P x → Q x) → IfOk r P → IfOk r Q
if_ok (Ok x) k h = k x h
if_ok (Err e) k h = h

module _ (a : Arena) (exact : Bool) (k : ℕ) (f g : Reading Atom) where
  abbrev At : ComponentEntityType → ComponentEntityType → Bool → Type 0
  At x y c = Answers a.core exact k f g (entity_tree (trees a.nodes) x) (entity_tree (trees a.nodes) y) c

  back : (x y x' y' : ComponentEntityType) {c : Bool} → x ≡ x' → y ≡ y' → At x' y' c → At x y c
  back x y x' y' {c} e h m = subst (λ (z : ComponentEntityType). At x z c) (sym h) (subst (λ (z : ComponentEntityType). At z y' c) (sym e) m)

  module _ (x y : ComponentEntityType) where
    pub module_case : {E : Type 0} (i j : ComponentCoreModuleTypeId) → x ≡ entity.Module i → y ≡ entity.Module j → EntityStands a x → EntityStands a y → (r : Result Bool E) →
        IfOk r (λ c. c ≡ modules_pass (id_tests a.core) exact (tree_at a (p.Module i)) (tree_at a (p.Module j))) → IfOk r (At x y)
    module_case i j e h s t r = if_ok r (λ c m. back x y _ _ e h
        (modules_answer a.core exact k f g _ _ (sort_stands a (p.Module i) (subst (EntityStands a) e s)) (sort_stands a (p.Module j) (subst (EntityStands a) h t)) m))

    pub func_case : (i j : ComponentFuncTypeId) {c : Bool} → x ≡ entity.Func i → y ≡ entity.Func j → EntityStands a x → EntityStands a y →
        c ≡ same_seen (seen (outside f) (tree_at a (p.Func i))) (seen (outside g) (tree_at a (p.Func j))) → At x y c
    func_case i j e h s t m = back x y _ _ e h
        (funcs_answer a.core exact k f g _ _ (sort_stands a (p.Func i) (subst (EntityStands a) e s)) (sort_stands a (p.Func j) (subst (EntityStands a) h t)) m)

    pub value_case : (v w : ComponentValType) {c : Bool} → x ≡ entity.Value v → y ≡ entity.Value w → EntityStands a x → EntityStands a y →
        c ≡ same_seen (seen (outside f) (entity_tree (trees a.nodes) (entity.Value v))) (seen (outside g) (entity_tree (trees a.nodes) (entity.Value w))) → At x y c
    value_case v w e h s t m = back x y _ _ e h (values_by_ids a exact k f g v w (subst (EntityStands a) e s) (subst (EntityStands a) h t) m)

    pub type_case : {E : Type 0} (v i w j : ComponentAnyTypeId) → x ≡ entity.Ty v i → y ≡ entity.Ty w j → (r : Result Bool E) →
        IfOk r (AnswersTypes a.core k f g (tree_at a (any_part i)) (tree_at a (any_part j))) → IfOk r (At x y)
    type_case v i w j e h r = if_ok r (λ c m. back x y _ _ e h (types_answer a.core exact k f g (tree_at a (any_part v)) (tree_at a (any_part i)) (tree_at a (any_part w)) (tree_at a (any_part j)) m))

    pub instance_case : {E : Type 0} (i j : ComponentInstanceTypeId) → x ≡ entity.Instance i → y ≡ entity.Instance j → (r : Result Bool E) →
        IfOk r (Answers a.core exact k f g (tree_at a (p.Instance i)) (tree_at a (p.Instance j))) → IfOk r (At x y)
    instance_case i j e h r = if_ok r (λ c m. back x y _ _ e h m)

    pub component_case : {E : Type 0} (i j : ComponentTypeId) → x ≡ entity.Component i → y ≡ entity.Component j → (r : Result Bool E) →
        IfOk r (Answers a.core exact k f g (tree_at a (p.Component i)) (tree_at a (p.Component j))) → IfOk r (At x y)
    component_case i j e h r = if_ok r (λ c m. back x y _ _ e h m)

-- ## Entries

module _ (gs : List Group) (ts : List Type_tree) (exact : Bool) (k : ℕ) (f g : Reading Atom) (xs ys : List (Text × ComponentItem)) where
  abbrev at_bound : ℕ → Type_tree → Type_tree → Bool
  at_bound d = pass_below exact (id_tests gs) d k f g

  abbrev names_told : Bool
  names_told = cond exact (list_all (λ (e : Text × ComponentItem). is_some (lookup (bytes_eq e.0) ys)) xs) true

  abbrev Bounds : ℕ → Type 0 → Type 0
  Bounds d P = tallest (named_trees ts xs) ≤ d → tallest (named_trees ts ys) ≤ d → P

  abbrev LeftTo : ℕ → Type 0
  LeftTo i = (d : ℕ) → Bounds d (list_all (found_in (at_bound d) (named_trees ts xs)) (named_trees ts ys) ≡ list_all (found_in (at_bound d) (named_trees ts xs)) (drop i (named_trees ts ys)))

  abbrev Told : Text × ComponentItem → Bool → Type 0
  Told y c = (d : ℕ) → Bounds d (found_in (at_bound d) (named_trees ts xs) (y.0, entity_tree ts y.1.ty) ≡ c)

  abbrev Whole : Bool → Type 0
  Whole c = AnswersEntries gs exact k f g (named_trees ts xs) (named_trees ts ys) c

  pub no_names : names_told ≡ false → Whole false
  no_names e d l r = sym (entries_split ts exact (at_bound d) xs ys ∙ ap (λ (b : Bool). b && each_passes (at_bound d) (named_trees ts xs) (named_trees ts ys)) e)

  split : names_told ≡ true → (d : ℕ) → entries_pass exact (at_bound d) (named_trees ts xs) (named_trees ts ys) ≡ each_passes (at_bound d) (named_trees ts xs) (named_trees ts ys)
  split e d = entries_split ts exact (at_bound d) xs ys ∙ ap (λ (b : Bool). b && each_passes (at_bound d) (named_trees ts xs) (named_trees ts ys)) e

  module _ (i : ℕ) where
    pub one_differs : names_told ≡ true → (y : Text × ComponentItem) → slice_get ys i ≡ Some y → LeftTo i → Told y false → Whole false
    one_differs e y h m o d l r =
        one_does_not (found_in (at_bound d) (named_trees ts xs)) (named_trees ts ys) i (y.0, entity_tree ts y.1.ty) (tree_at_place ts ys i y h) (m d l r) (o d l r) ∙ sym (split e d)

    pub one_agrees : (y : Text × ComponentItem) → slice_get ys i ≡ Some y → LeftTo i → Told y true → LeftTo (i + 1)
    one_agrees y h m o d l r = each_holds (found_in (at_bound d) (named_trees ts xs)) (named_trees ts ys) i (y.0, entity_tree ts y.1.ty) (tree_at_place ts ys i y h) (m d l r) (o d l r)

    pub all_agree : names_told ≡ true → length ys ≤ i → LeftTo i → Whole true
    all_agree e h m d l r = each_held (found_in (at_bound d) (named_trees ts xs)) (named_trees ts ys) i (subst (λ (n : ℕ). n ≤ i) (sym (length-map ys _)) h) (m d l r) ∙ sym (split e d)

    pub told : (y : Text × ComponentItem) (x : ComponentItem) (f' g' : Reading Atom) {c : Bool} → slice_get ys i ≡ Some y → lookup (bytes_eq y.0) xs ≡ Some x → f' ≡ f → g' ≡ g →
        Answers gs exact k f' g' (entity_tree ts x.ty) (entity_tree ts y.1.ty) c → Told y c
    told y x f' g' h e p q m d l r =
        let hx = tallest_found (named_trees ts xs) y.0 (entity_tree ts x.ty) (found_tree ts xs y.0 x e) in
        let hy = tallest_at (named_trees ts ys) i (y.0, entity_tree ts y.1.ty) (tree_at_place ts ys i y h) in
        found_passes (at_bound d) (named_trees ts xs) (y.0, entity_tree ts y.1.ty) (entity_tree ts x.ty) (found_tree ts xs y.0 x e) ∙
        sym (answers_at gs exact k f' g' f g (entity_tree ts x.ty) (entity_tree ts y.1.ty) (entity_tree ts x.ty) (entity_tree ts y.1.ty) p q refl refl m d (omega (arith, hx, l)) (omega (arith, hy, r)))

    pub untold : (y : Text × ComponentItem) → lookup (bytes_eq y.0) xs ≡ None → Told y false
    untold y e d l r = none_passes (at_bound d) (named_trees ts xs) (y.0, entity_tree ts y.1.ty) (no_tree ts xs y.0 e)

    pub lower : (y : Text × ComponentItem) (x : ComponentItem) → slice_get ys i ≡ Some y → lookup (bytes_eq y.0) xs ≡ Some x →
        (height (entity_tree ts x.ty) ≤ tallest (named_trees ts xs)) × (height (entity_tree ts y.1.ty) ≤ tallest (named_trees ts ys))
    lower y x h e = (tallest_found (named_trees ts xs) y.0 (entity_tree ts x.ty) (found_tree ts xs y.0 x e), tallest_at (named_trees ts ys) i (y.0, entity_tree ts y.1.ty) (tree_at_place ts ys i y h))

-- an entry that is found stands
pub found_stands : (a : Arena) (xs : List (Text × ComponentItem)) (t : Text) (x : ComponentItem) → All (EntryStands a) xs → lookup (bytes_eq t) xs ≡ Some x → EntityStands a x.ty
found_stands a xs t x h e = subst (λ (o : Option ComponentItem). IfSome o (λ (w : ComponentItem). EntityStands a w.ty)) e (All-lookup (λ (w : ComponentItem). EntityStands a w.ty) (bytes_eq t) xs h)

-- ## Instances

pub slot_there : (a : Arena) (s : Slot) → All (Stands a) (slot_refs s) → SlotStands a s
slot_there a (leaf o) h = tt
slot_there a (at q) h = All-head (Stands a) q [] h
slot_there a (both c r) h = (All-head (Stands a) c (r ∷ []) h, All-head (Stands a) r [] (All-tail (Stands a) c (r ∷ []) h))
slot_there a (core e) h = tt

pub entries_stand : (a : Arena) (role : Extern_name → Role) (es : List (Text × ComponentItem)) → All (Stands a) (parts_in (entry_slots role es)) → All (EntryStands a) es
entries_stand a role [] h = All-nil _
entries_stand a role (e ∷ es) h =
    All-cons (EntryStands a) e es (slot_there a (entity_slot e.1.ty) (all_left (Stands a) (slot_refs (entity_slot e.1.ty)) (parts_in (entry_slots role es)) h))
    (entries_stand a role es (all_right (Stands a) (slot_refs (entity_slot e.1.ty)) (parts_in (entry_slots role es)) h))

pub instance_stands : (a : Arena) (i : ℕ) (s : ComponentInstanceType) → All (StandsBefore a (suc i)) (parts_of (n.Instance s)) → All (EntryStands a) s.exports
instance_stands a i s h = entries_stand a export s.exports (parts_ready a (suc i) (parts_of (n.Instance s)) (parts_of (n.Instance s)) refl h (omega arith)).1

module _ (a : Arena) (i : ℕ) (s : ComponentInstanceType) (x : Type_tree) (e : x ≡ unfolded a i (n.Instance s)) where
  pub instance_lower : tallest (named_trees (trees a.nodes) s.exports) < height x
  instance_lower = subst (λ (es : List (Text × Type_tree)). tallest es < height x) (instance_names a i s x e) (exports_lower x)

  module _ (j : ℕ) (t : ComponentInstanceType) (y : Type_tree) (h : y ≡ unfolded a j (n.Instance t)) where
    pub instances_answer : (exact : Bool) (k m : ℕ) (f g f' g' : Reading Atom) {c : Bool} → m ≡ suc k →
        f' ≡ over (read_by (owned_in k) (resource_names s.defined_resources)) f → g' ≡ over (read_by (owned_in k) (resource_names t.defined_resources)) g →
        AnswersEntries a.core exact m f' g' (named_trees (trees a.nodes) s.exports) (named_trees (trees a.nodes) t.exports) c → Answers a.core exact k f g x y c
    instances_answer exact k m f g f' g' {c} u p q w =
        entries_answer a.core exact k f g x y (ap (λ (z : Type_tree). sort z) e) (ap (λ (z : Type_tree). sort z) h) (exports_lower x) (exports_lower y)
        (subst (λ (es : List (Text × Type_tree)). AnswersEntries a.core exact (suc k) (under_at k (head x) f) (under_at k (head y) g) (named_exports x) es c) (sym (instance_names a j t y h))
        (subst (λ (es : List (Text × Type_tree)). AnswersEntries a.core exact (suc k) (under_at k (head x) f) (under_at k (head y) g) es (named_trees (trees a.nodes) t.exports) c) (sym (instance_names a i s x e))
        (subst (λ (r : Reading Atom). AnswersEntries a.core exact (suc k) (under_at k (head x) f) r (named_trees (trees a.nodes) s.exports) (named_trees (trees a.nodes) t.exports) c) (q ∙ sym (instance_under a j k t y g h))
        (subst (λ (r : Reading Atom). AnswersEntries a.core exact (suc k) r g' (named_trees (trees a.nodes) s.exports) (named_trees (trees a.nodes) t.exports) c) (p ∙ sym (instance_under a i k s x f e))
        (subst (λ (l : ℕ). AnswersEntries a.core exact l f' g' (named_trees (trees a.nodes) s.exports) (named_trees (trees a.nodes) t.exports) c) u w)))))

-- ## Types that entries refer to

pub types_told : (gs : List Group) (k : ℕ) (f g : Reading Atom) (x y x' y' : Type_tree) {c : Bool} → x ≡ x' → y ≡ y' → Answers gs true k f g x y c → (d : ℕ) → height x' ≤ d → height y' ≤ d →
    same_below (id_tests gs) d k f g x' y' ≡ c
types_told gs k f g x y x' y' e h m d l r = sym (answers_at gs true k f g f g x y x' y' refl refl e h m d l r)

-- the same answer under another name
pub answers_are : (gs : List Group) (exact : Bool) (k : ℕ) (f g : Reading Atom) (x y : Type_tree) {b c : Bool} → Answers gs exact k f g x y b → b ≡ c → Answers gs exact k f g x y c
answers_are gs exact k f g x y m e d l r = sym e ∙ m d l r
