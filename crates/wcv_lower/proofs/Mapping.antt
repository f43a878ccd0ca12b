-- What a step does to a stack, and what checks look at, are the same under every map of entries.
use Rattle.std.proofs.Common.{◌≡◌, ℕ, zero, suc, max, ◌+◌, List, [], ◌∷◌, map, refl, sym, ◌∙◌, ap, subst, length}
use Rattle.std.specs.Prelude.{slice_get, ◌++◌, Bool, true, false, not, ◌&&◌, ◌||◌, cond, Option, Some, None}
use Rattle.std.specs.Option.{option_map, option_and_then}
use Rattle.std.proofs.lemmas.List.{map-append}
use Rattle.std.proofs.lemmas.Option.{slice_get-map}
use Rattle.wcv_core.specs.declared.core_types.ValType.{ValType}
use Rattle.wcv_core.specs.declared.error.ErrorKind.TheVariants as kind
use Rattle.wcv_core.specs.declared.features.WasmFeatures.{WasmFeatures}
use Rattle.wcv_types.specs.Abi.{borrow}
use Rattle.wcv_types.specs.Tree.{Extern_name, Sort, is_nothing, is_value, is_resource, is_func, is_instance, is_component, is_type, is_module, is_core_instance, is_core_type, is_core_item}
use Rattle.wcv_types.proofs.Each.{length-mapped}
use Rattle.wcv_types.proofs.Lists.{some-inj}
use Rattle.wcv_lower.proofs.Joined.{map-joined}
use Rattle.wcv_lower.proofs.MarkLaws.{uses-mapped}
use Rattle.wcv_lower.specs.Checks.{missing, missing_of, same_sort, bad_entity}
use Rattle.wcv_lower.specs.Context.{Context, Stack, Space, in_types, Core_space, Side, importing, exporting, asks_names, same_space, same_core_space, same_side, joined, names_for, counts, push, push_core, enlist, placed, unknown, introduce, define, with_named, name_types, charge, type_at}
use Rattle.wcv_types.specs.Positions.{is_there}
use Rattle.wcv_lower.specs.Mapped.{Map, Commutes, IsKnown, map_entries, map_paths, map_defined, map_context, map_stack, map_change, map_step, map_brought}
use Rattle.wcv_lower.specs.Entries.{lends, lent, entity_checks}
use Rattle.wcv_lower.specs.Marks.{using}
use Rattle.wcv_lower.specs.Readers.{Reader, sort_of, if_sort, weight}
use Rattle.wcv_lower.specs.Step.{Change, appends, lists, introduces, defines, creates, core_appends, interns, charges, types_slots, marks_value, uses_value, names_start, Step, on_top, change_at, on_outer, change, apply, Brought, joins, enters}

-- two ways around a square, over what there is
pub mapped-square : {A B C D : Type 0} (p : A → B) (v : B → D) (u : A → C) (q : C → D) → ((x : A) → v (p x) ≡ q (u x)) → (o : Option A) → option_map v (option_map p o) ≡ option_map q (option_map u o)
mapped-square p v u q h None = refl
mapped-square p v u q h (Some x) = ap Some (h x)

pub missing-mapped : {A B : Type 0} (f : A → B) (o : Option A) → missing (option_map f o) ≡ missing o
missing-mapped f None = refl
missing-mapped f (Some x) = refl

change_at-mapped : {A B : Type 0} (f : A → B) (u : A → A) (v : B → B) → ((x : A) → v (f x) ≡ f (u x)) → (k : ℕ) (xs : List A) → change_at k v (map f xs) ≡ map f (change_at k u xs)
change_at-mapped f u v h k [] = refl
change_at-mapped f u v h zero (x ∷ xs) = ap (λ y. y ∷ map f xs) (h x)
change_at-mapped f u v h (suc k) (x ∷ xs) = ap (λ ys. f x ∷ ys) (change_at-mapped f u v h k xs)

module _ {X Y : Reader} (m : Map X Y) {Known : X.Entry → Type 0} (law : Commutes m Known) where
  -- ## Steps

  push-mapped : (k : Space) (x : X.Entry) (c : Context X) → push k (m.entry x) (map_context m c) ≡ map_context m (push k x c)
  push-mapped k x c = λ j. record (map_context m c) { space = λ i. sym (map-joined m.entry (same_space i k) (c.space i) x) j }

  push_core-mapped : (k : Core_space) (x : X.Entry) (c : Context X) → push_core k (m.entry x) (map_context m c) ≡ map_context m (push_core k x c)
  push_core-mapped k x c = λ j. record (map_context m c) { core = λ i. sym (map-joined m.entry (same_core_space i k) (c.core i) x) j }

  enlist-mapped : (s : Side) (n : Extern_name) (x : X.Entry) (c : Context X) → enlist s n (m.entry x) (map_context m c) ≡ map_context m (enlist s n x c)
  enlist-mapped s n x c = λ j. record (map_context m (enlist s n x c)) {
    side = λ i. sym (map-joined (λ (e : Extern_name × X.Entry). (e.0, m.entry e.1)) (same_side i s) (c.side i) (n, x)) j;
    size = c.size + law.size x j;
    depth = max c.depth (suc (law.depth x j));
  }

  placed-mapped : (k : ℕ) (rs : List (X.Resource × List ℕ)) → placed k (map_paths m.resource rs) ≡ map_paths m.resource (placed k rs)
  placed-mapped k [] = refl
  placed-mapped k (r ∷ rs) = ap (λ xs. (m.resource r.0, k ∷ r.1) ∷ xs) (placed-mapped k rs)

  unknown-mapped : (rs : List (X.Resource × List ℕ)) → unknown (map_paths m.resource rs) ≡ map_defined m (unknown rs)
  unknown-mapped [] = refl
  unknown-mapped (r ∷ rs) = ap (λ xs. (m.resource r.0, None) ∷ xs) (unknown-mapped rs)

  introduce-mapped : (s : Side) (rs : List (X.Resource × List ℕ)) (c : Context X) → introduce s (map_paths m.resource rs) (map_context m c) ≡ map_context m (introduce s rs c)
  introduce-mapped importing rs c =
      let f : X.Resource × List ℕ → Y.Resource × List ℕ = λ r. (m.resource r.0, r.1) in
      let e : map_paths m.resource c.imported ++ placed (length (map_entries m.entry (c.side importing))) (map_paths m.resource rs) ≡ map_paths m.resource (c.imported ++ placed (length (c.side importing)) rs) =
      ap (λ (n : ℕ). map_paths m.resource c.imported ++ placed n (map_paths m.resource rs)) (length-mapped (λ (e : Extern_name × X.Entry). (e.0, m.entry e.1)) (c.side importing)) ∙
      ap (λ xs. map_paths m.resource c.imported ++ xs) (placed-mapped (length (c.side importing)) rs) ∙ sym (map-append f c.imported (placed (length (c.side importing)) rs)) in
      λ j. record (map_context m c) { imported = e j }
  introduce-mapped exporting rs c =
      let e : map_defined m c.defined ++ unknown (map_paths m.resource rs) ≡ map_defined m (c.defined ++ unknown rs) =
      ap (λ xs. map_defined m c.defined ++ xs) (unknown-mapped rs) ∙ sym (map-append (λ (d : X.Resource × Option ValType). (m.resource d.0, d.1)) c.defined (unknown rs)) in
      λ j. record (map_context m c) { defined = e j }

  define-mapped : (r : X.Resource) (v : Option ValType) (c : Context X) → define (m.resource r) v (map_context m c) ≡ map_context m (define r v c)
  define-mapped r v c = λ j. record (map_context m c) { defined = sym (map-append (λ (d : X.Resource × Option ValType). (m.resource d.0, d.1)) c.defined ((r, v) ∷ [])) j }

  there-mapped : (i : X.Identity) (ids : List X.Identity) → is_there Y.same (m.identity i) (map m.identity ids) ≡ is_there X.same i ids
  there-mapped i [] = refl
  there-mapped i (x ∷ ids) =
      let e : is_there Y.same (m.identity i) (map m.identity ids) ≡ is_there X.same i ids = there-mapped i ids in
      λ j. law.same i x j || e j

  with_named-mapped : (b : Bool) (ids is : List X.Identity) → with_named Y.same b (map m.identity ids) (map m.identity is) ≡ map m.identity (with_named X.same b ids is)
  with_named-mapped b ids [] = refl
  with_named-mapped b ids (i ∷ is) =
      ap (λ (a : Bool). with_named Y.same b (joined (b && not a) (map m.identity ids) (m.identity i)) (map m.identity is)) (there-mapped i ids) ∙
      ap (λ (xs : List Y.Identity). with_named Y.same b xs (map m.identity is)) (sym (map-joined m.identity (b && not (is_there X.same i ids)) ids i)) ∙
      with_named-mapped b (joined (b && not (is_there X.same i ids)) ids i) is

  name_types-mapped : (s : Side) (is : List X.Identity) (c : Context X) → name_types s (map m.identity is) (map_context m c) ≡ map_context m (name_types s is c)
  name_types-mapped s is c = λ j. record (map_context m c) { named = λ d. with_named-mapped (names_for s d && asks_names c.kind) (c.named d) is j }

  top-mapped : (u : Context X → Context X) (v : Context Y → Context Y) → ((c : Context X) → v (map_context m c) ≡ map_context m (u c)) → (s : Stack X) → on_top v (map_stack m s) ≡ map_stack m (on_top u s)
  top-mapped u v h s = λ j. record (map_stack m s) { top = h s.top j }

  outer-mapped : (k n : ℕ) (s : Stack X) → on_outer k (charge n) (map_stack m s) ≡ map_stack m (on_outer k (charge n) s)
  outer-mapped zero n s = refl
  outer-mapped (suc k) n s = λ j. record (map_stack m s) { outer = change_at-mapped (map_context m) (charge n) (charge n) (λ c. refl) k s.outer j }

  change-mapped : (x : Change X) (s : Stack X) → change (map_change m x) (map_stack m s) ≡ map_stack m (change x s)
  change-mapped (appends k x) s = top-mapped (push k x) (push k (m.entry x)) (push-mapped k x) s
  change-mapped (lists d n x) s = top-mapped (enlist d n x) (enlist d n (m.entry x)) (enlist-mapped d n x) s
  change-mapped (introduces d rs) s = top-mapped (introduce d rs) (introduce d (map_paths m.resource rs)) (introduce-mapped d rs) s
  change-mapped (defines r v) s = top-mapped (define r v) (define (m.resource r) v) (define-mapped r v) s
  change-mapped (creates d is) s = top-mapped (name_types d is) (name_types d (map m.identity is)) (name_types-mapped d is) s
  change-mapped (core_appends k x) s = top-mapped (push_core k x) (push_core k (m.entry x)) (push_core-mapped k x) s
  change-mapped (interns gs) s = refl
  change-mapped (charges k n) s = outer-mapped k n s
  change-mapped (types_slots v) s = refl
  change-mapped (marks_value b) s = refl
  change-mapped (uses_value k) s = refl
  change-mapped names_start s = refl

  pub apply-mapped : (p : Step X) (s : Stack X) → apply (map_step m p) (map_stack m s) ≡ map_stack m (apply p s)
  apply-mapped [] s = refl
  apply-mapped (x ∷ p) s = ap (apply (map_step m p)) (change-mapped x s) ∙ apply-mapped p (change x s)

  pub using-mapped : (ks : List ℕ) (o : Option (Step X)) (q : Option (Step Y)) → q ≡ option_map (map_step m) o → using ks q ≡ option_map (map_step m) (using ks o)
  using-mapped ks o q e = ap (using ks) e ∙ go o
    where
      go : (o : Option (Step X)) → using ks (option_map (map_step m) o) ≡ option_map (map_step m) (using ks o)
      go None = refl
      go (Some p) = ap Some (uses-mapped m ks p)

  pub joins-mapped : (used : Bool) (o : Sort) (x : X.Entry) → joins Y used o (m.entry x) ≡ map_step m (joins X used o x)
  joins-mapped used is_func x = refl
  joins-mapped used is_value x = refl
  joins-mapped used is_instance x = refl
  joins-mapped used is_component x = refl
  joins-mapped used is_type x = ap (λ (y : Y.Entry). appends in_types y ∷ []) (law.created x)
  joins-mapped used is_resource x = refl
  joins-mapped used is_nothing x = refl
  joins-mapped used is_module x = refl
  joins-mapped used is_core_instance x = refl
  joins-mapped used is_core_type x = refl
  joins-mapped used is_core_item x = refl

  pub joining-mapped : (used : Bool) (x : X.Entry) → Known x → joins Y used (sort_of Y (m.entry x)) (m.entry x) ≡ map_step m (joins X used (sort_of X x) x)
  joining-mapped used x h = ap (λ (o : Sort). joins Y used o (m.entry x)) (law.sort x h) ∙ joins-mapped used (sort_of X x) x

  pub enters-mapped : (s : Side) (n : Extern_name) (b : Brought X) → Known b.entity → enters s n (map_brought m b) ≡ map_step m (enters s n b)
  enters-mapped s n b h = λ j. introduces s (map_paths m.resource b.resources) ∷ lists s n (m.entry b.entity) ∷ creates s (law.creates b.entity j) ∷ joining-mapped (same_side s exporting) b.entity h j

  -- ## What is looked up

  pub get-mapped : (xs : List X.Entry) (k : ℕ) → slice_get (map m.entry xs) k ≡ option_map m.entry (slice_get xs k)
  get-mapped xs k = slice_get-map m.entry xs k

  pub sorts-mapped : (o : Option X.Entry) → ((x : X.Entry) → o ≡ Some x → Known x) → option_map (sort_of Y) (option_map m.entry o) ≡ option_map (sort_of X) o
  sorts-mapped None h = refl
  sorts-mapped (Some x) h = ap Some (law.sort x (h x refl))

  pub sorted-mapped : (s : Sort) (o : Option X.Entry) → ((x : X.Entry) → o ≡ Some x → Known x) → option_and_then (if_sort Y s) (option_map m.entry o) ≡ option_map m.entry (option_and_then (if_sort X s) o)
  sorted-mapped s None h = refl
  sorted-mapped s (Some x) h = ap (λ (r : Sort). cond (same_sort s r) (Some (m.entry x)) None) (law.sort x (h x refl)) ∙ go (same_sort s (sort_of X x))
    where
      go : (b : Bool) → cond b (Some (m.entry x)) None ≡ option_map m.entry (cond b (Some x) None)
      go true = refl
      go false = refl

  pub type_at-mapped : (c : Context X) (k : ℕ) → type_at (map_context m c) k ≡ option_map m.entry (type_at c k)
  type_at-mapped c k = ap (option_map Y.referenced) (get-mapped (c.space in_types) k) ∙ mapped-square m.entry Y.referenced X.referenced m.entry law.referenced (slice_get (c.space in_types) k)

  -- what is found in a known context is known
  mapped_known : (f : X.Entry → X.Entry) → ((x : X.Entry) → Known x → Known (f x)) → (o : Option X.Entry) → ((x : X.Entry) → o ≡ Some x → Known x) → (y : X.Entry) → option_map f o ≡ Some y → Known y
  mapped_known f g None h y e = cc
  mapped_known f g (Some x) h y e = subst Known (some-inj e) (g x (h x refl))

  pub type_known : (c : Context X) → IsKnown Known c → (k : ℕ) (x : X.Entry) → type_at c k ≡ Some x → Known x
  type_known c w k x e = mapped_known X.referenced law.referenced_known (slice_get (c.space in_types) k) (λ y f. w.space in_types k y f) x e

  pub sorted_known : (s : Sort) (o : Option X.Entry) → ((x : X.Entry) → o ≡ Some x → Known x) → (y : X.Entry) → option_and_then (if_sort X s) o ≡ Some y → Known y
  sorted_known s None h y e = cc
  sorted_known s (Some x) h y e = go (same_sort s (sort_of X x)) e
    where
      go : (b : Bool) → cond b (Some x) None ≡ Some y → Known y
      go true e = subst Known (some-inj e) (h x refl)
      go false e = cc

  -- ## What checks look at

  pub counts-mapped : (c : Context X) → counts (map_context m c) ≡ counts c
  counts-mapped c = λ j. record (counts c) {
    core = λ k. length-mapped m.entry (c.core k) j;
    space = λ k. length-mapped m.entry (c.space k) j;
    side = λ s. length-mapped {B = Extern_name × Y.Entry} (λ (e : Extern_name × X.Entry). (e.0, m.entry e.1)) (c.side s) j;
  }

  pub missing_of-mapped : (s : Sort) (o : Option X.Entry) → ((x : X.Entry) → o ≡ Some x → Known x) → missing_of s (option_map (sort_of Y) (option_map m.entry o)) ≡ missing_of s (option_map (sort_of X) o)
  missing_of-mapped s o h = ap (missing_of s) (sorts-mapped o h)

  weight-mapped : (x : X.Entry) → Known x → weight Y (m.entry x) ≡ weight X x
  weight-mapped x h = λ j. record { sort = law.sort x h j; size = law.size x j; depth = law.depth x j }

  pub lends-mapped : (x : X.Entry) → Known x → lends Y (m.entry x) ≡ lends X x
  lends-mapped x h = λ j. same_sort is_value (law.sort x h j) && law.contains borrow x j

  lent-mapped : (s : Side) (x : X.Entry) → Known x → lent Y s (m.entry x) ≡ lent X s x
  lent-mapped s x h = λ j. (kind.Borrow, same_side s exporting && lends-mapped x h j) ∷ []

  pub entity_checks-mapped : (fs : WasmFeatures) (s : Side) (n : Extern_name) (c : Context X) (x : X.Entry) → Known x → entity_checks fs s n (map_context m c) (m.entry x) ≡ entity_checks fs s n c x
  entity_checks-mapped fs s n c x h = λ j.
      law.name_checks fs (c.side s) n x j ++ (bad_entity (counts-mapped c j) (weight-mapped x h j) ++ (((kind.Unnamed, asks_names c.kind && not (law.is_named c.named s x j)) ∷ []) ++ lent-mapped s x h j))
