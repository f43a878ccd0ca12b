-- What "valid" says in stacks that valid items lead to, in the words of matching: of instantiations, written types, start items and core
-- instances.
use Rattle.std.proofs.Common.{◌≡◌, ℕ, zero, suc, List, [], ◌∷◌, ◌++◌, map, length, Bool, true, false, ◌&&◌, not, cond, eqb, refl, sym, ◌∙◌, ap, subst, arith, Option, Some, None}
use Rattle.std.specs.Bool.{Decides}
use Rattle.std.specs.Prelude.{All}
use Rattle.std.proofs.lemmas.Bool.{false≢true}
use Rattle.std.proofs.lemmas.Bool.Decides.{nat_tests}
use Rattle.std.proofs.lemmas.List.Elements.{All-nil, All-cons, All-head, All-tail}
use Rattle.wcv_core.specs.Checks.{Checks, all_checks, lacks, missing}
use Rattle.wcv_core.specs.CoreGroups.{total}
use Rattle.wcv_core.specs.CoreSizes.{IsEntityWithin}
use Rattle.wcv_core.specs.Names.{Name, Place, deeper, member}
use Rattle.wcv_core.specs.declared.error.ErrorKind.TheVariants as error
use Rattle.wcv_core.specs.declared.features.WasmFeatures.{WasmFeatures}
use Rattle.wcv_core.proofs.Causes.{free_left, free_right}
use Rattle.wcv_core.proofs.Names.{and_left, and_right}
use Rattle.wcv_syntax.specs.Model.{instantiate}
use Rattle.wcv_syntax.specs.ModuleTypes.{Core_export}
use Rattle.wcv_syntax.specs.declared.component_type.ComponentTypeRef.{ComponentTypeRef}
use Rattle.wcv_syntax.specs.declared.core_section.InstantiationArg.{InstantiationArg}
use Rattle.wcv_syntax.specs.declared.instance.ComponentInstantiationArg.{ComponentInstantiationArg}
use Rattle.wcv_syntax.specs.declared.name.ComponentExport.{ComponentExport}
use Rattle.wcv_types.specs.Led.{HeadLed}
use Rattle.wcv_types.specs.Replacing.{SparesOwn, SparesOwnIn}
use Rattle.wcv_types.specs.Tree.{Text, Extern_name, plain_name, Head, instance, here, label, import, export, core_import, core_export, func, node, Parts, none, part, exports, head, imported_at, is_instance, owned, parts, sort}
use Rattle.wcv_types.specs.Unfold.{Type_tree}
use Rattle.wcv_types.proofs.Lists.{some-inj}
use Rattle.wcv_closed.specs.CoreModules.{AllServed, EachArgument, EachItem}
use Rattle.wcv_matching.specs.AtomTests.{same_seen}
use Rattle.wcv_matching.specs.ModuleItems.{ItemsMatch}
use Rattle.wcv_matching.specs.OnePass.{argument_for}
use Rattle.wcv_matching.specs.Orderly.{AreNamedApart, EachNode, EachNodeIn, Orderly, items_in}
use Rattle.wcv_matching.specs.SameTypes.{made_at}
use Rattle.wcv_matching.specs.TableMatching.{CoreWithin, Opens, TypeMatches}
use Rattle.wcv_matching.proofs.AtomTests.{seen-decides}
use Rattle.wcv_matching.proofs.PassArguments.{argument-found, found-opens}
use Rattle.wcv_matching.proofs.PassByIds.{matching-by_ids}
use Rattle.wcv_lower.specs.Canons.{func_at}
use Rattle.wcv_lower.specs.Checks.{Cause, IsFree, if_found}
use Rattle.wcv_lower.specs.Context.{core_instances, core_modules, exporting, in_components, in_funcs, in_values}
use Rattle.wcv_lower.specs.CoreInstances.{all_served, core_instance_at, core_module_at, exported_by, offered}
use Rattle.wcv_lower.specs.Defined.{is_empty}
use Rattle.wcv_lower.specs.Entries.{export_checks, exported, exported_at, items_of, written}
use Rattle.wcv_lower.specs.Instances.{arguments, component_at, instance_checks}
use Rattle.wcv_lower.specs.Instantiated.{opened_resource, opening}
use Rattle.wcv_lower.specs.Marks.{use_checks, value_at}
use Rattle.wcv_lower.specs.Names.{again, names_by_place}
use Rattle.wcv_lower.specs.NewTypes.{owned_anew}
use Rattle.wcv_lower.specs.Owned.{AllEntries, OwnApart, OwnsApart}
use Rattle.wcv_lower.specs.Readers.{Maker}
use Rattle.wcv_lower.specs.Start.{all_suit, func_suits, result_room, signature_checks, start_checks, suits}
use Rattle.wcv_lower.specs.Step.{Brought, Step, creates, enters, introduces, joins, lists}
use Rattle.wcv_lower.specs.Trees.{Tree_stack, labelled, params, tree_maker, tree_reader}
use Rattle.wcv_core.specs.Features.{cm_values}
use Rattle.wcv_lower.specs.Values.{type_of_sort}
use Rattle.wcv_lower.proofs.Bringing.{Brings, OfAny, all_at, any_at, items_have, of_some, of_sort_has}
use Rattle.wcv_lower.proofs.EntryLaws.{written_is_matched}
use Rattle.wcv_lower.proofs.InstancesBring.{opening_spares}
use Rattle.wcv_lower.proofs.Instantiating.{accepted_opens, opening-decides}
use Rattle.wcv_lower.proofs.Owning.{apart_outside, own_apart_inherited}
use Rattle.wcv_lower.proofs.Served.{served_told}
use Rattle.wcv_lower.proofs.ValueLaws.{found_there}
use Rattle.wcv_growth.proofs.AsFar.{Reaches, reached-reaches}
use Rattle.wcv_growth.proofs.CoreFound.{written-of}
use Rattle.wcv_growth.proofs.CoreReached.{reached-kept}
use Rattle.wcv_growth.proofs.Entering.{written-does}
use Rattle.wcv_growth.proofs.Growing.{Ready}
use Rattle.wcv_growth.proofs.Known.{Any, Fine, all-get}
use Rattle.wcv_growth.proofs.MismatchAlone.{then-unmatched, then-unopened, unmatched, unopened}
use Rattle.wcv_growth.proofs.Near.{After}
use Rattle.wcv_growth.proofs.OfTable.{OfTable, instance-items, module-items}
use Rattle.wcv_growth.proofs.Ordering.{core-within, in-order, sound-orderly}
use Rattle.wcv_growth.proofs.Sound.{renewal-spares_in}
use Rattle.wcv_growth.proofs.Settled.{settles-ready}
use Rattle.wcv_growth.proofs.Tidy.{tidy-ready}
use Rattle.wcv_growth.proofs.TidyEntering.{written-tidy}
use Rattle.wcv_growth.proofs.TidyInside.{ready-leads}
use Rattle.wcv_growth.specs.InOrder.{IsInOrder}
use Rattle.wcv_growth.specs.Reached.{Reached}
use Rattle.wcv_growth.specs.Suiting.{AllSuit, Suits}

-- what holds at each node of a type holds of what stands under labels
labelled-each : (P : Head Name Name → Parts Name Name → Type 0) (ps : Parts Name Name) → EachNodeIn P ps → All (EachNode P) (labelled ps)
labelled-each P none w = All-nil (EachNode P)
labelled-each P (part (label l) t ps) w = All-cons (EachNode P) t (labelled ps) w.0 (labelled-each P ps w.1)
labelled-each P (part here t ps) w = labelled-each P ps w.1
labelled-each P (part (import n) t ps) w = labelled-each P ps w.1
labelled-each P (part (export n) t ps) w = labelled-each P ps w.1
labelled-each P (part (core_import m n) t ps) w = labelled-each P ps w.1
labelled-each P (part (core_export n) t ps) w = labelled-each P ps w.1

params-each : (P : Head Name Name → Parts Name Name → Type 0) (t : Type_tree) → EachNode P t → All (EachNode P) (params t)
params-each P (node (func i b) ps) w = labelled-each P ps w.1
params-each P (node h ps) w = All-nil (EachNode P)

empty-is : {A : Type 0} (xs : List A) → is_empty xs ≡ true → xs ≡ []
empty-is [] e = refl
empty-is (x ∷ xs) e = cc

-- an instance of an instance type replaces what is owned nowhere inside
instance-spares : (p : Place) (t : Type_tree) → OwnsApart t → SparesOwnIn (owned_anew names_by_place p (owned t)) (parts t)
instance-spares p (node (instance i own) ps) apart = renewal-spares_in names_by_place p own ps apart
instance-spares p (node h ps) apart = renewal-spares_in names_by_place p [] ps (λ r e. absurd (false≢true e))

suc-same : (n m : ℕ) → suc n ≡ suc m → n ≡ m
suc-same n m e = omega (arith, e)

equal-is : (n m : ℕ) → eqb n m ≡ true → n ≡ m
equal-is n m e = grind (arith, nat_tests)

not-false : (b : Bool) → not b ≡ false → b ≡ true
not-false true e = refl
not-false false e = cc

both-here : (P Q : Type_tree → Type 0) (c : _) → AllEntries P c → AllEntries Q c → AllEntries (λ t. P t × Q t) c
both-here P Q c a b = record { core = λ k i x l. (a.core k i x l, b.core k i x l); space = λ k i x l. (a.space k i x l, b.space k i x l); side = λ d i x l. (a.side d i x l, b.side d i x l) }

module _ (fs : WasmFeatures) (w : Place) (k : ℕ) (s : Tree_stack) (r : Reached fs names_by_place w k s) where
  abbrev o : IsInOrder w k s
  o = in-order fs w k s r

  abbrev Fits : Type_tree → Type 0
  Fits t = Orderly t × CoreWithin s.groups t

  all : AllEntries Fits s.top
  all = both-here Orderly (CoreWithin s.groups) s.top (o.orderly zero s.top refl) (o.within zero s.top refl)

  -- matching of such types is decided
  told : (a b : Type_tree) → Fits a → Fits b → Decides (tree_reader.matches s.groups a b) (TypeMatches s.groups a b)
  told a b x y = matching-by_ids s.groups same_seen seen-decides o.table a b x.0 y.0 x.1 y.1

  -- ## Instantiations

  module _ (p : Place) (i : ℕ) (args : List ComponentInstantiationArg) where
    module _ (c : Type_tree) (there : component_at s.top i ≡ Some c) where
      ordered : Orderly c
      ordered = (all_at Fits (s.top.space in_components) i c (all.space in_components) there).0

      decided : Decides (tree_reader.opens s.groups (arguments s.top args) c) ((u : Name → Name) × Opens s.groups u (arguments s.top args) c)
      decided = opening-decides s o.table all i args c there

      pub opened : (u : Name → Name) → Opens s.groups u (arguments s.top args) c → Cause (instance_checks fs (tree_maker names_by_place p) s (instantiate i args)) error.Mismatch → ⊥
      opened u x m = false≢true (sym (unopened fs (tree_maker names_by_place p) s i args c there m) ∙ decided.1 (u, x))

      pub then-opened : (Cause (instance_checks fs (tree_maker names_by_place p) s (instantiate i args)) error.Mismatch → ⊥) → Opens s.groups (argument_for (arguments s.top args) c) (arguments s.top args) c
      then-opened n = go (tree_reader.opens s.groups (arguments s.top args) c) refl
        where
          go : (b : Bool) → tree_reader.opens s.groups (arguments s.top args) c ≡ b → Opens s.groups (argument_for (arguments s.top args) c) (arguments s.top args) c
          go true e = let u = decided.0 e in found-opens (ItemsMatch s.groups) u.0 (arguments s.top args) c ordered u.1
          go false e = absurd (n (then-unopened fs (tree_maker names_by_place p) s i args c there e))

      pub argument-is : (u : Name → Name) (q : Name) → Opens s.groups u (arguments s.top args) c → member q (imported_at (head c)) ≡ true → argument_for (arguments s.top args) c q ≡ u q
      argument-is u q x m = argument-found (ItemsMatch s.groups) u (arguments s.top args) c ordered x q m

      pub becomes : (u : Name → Name) (q : Name) → Opens s.groups u (arguments s.top args) c → member q (imported_at (head c)) ≡ true → opened_resource names_by_place p (arguments s.top args) c q ≡ Some (u q)
      becomes u q x m =
          ap (λ (b : Bool). cond b (Some (argument_for (arguments s.top args) c q)) (cond (member q (made_at (head c))) (Some (names_by_place.resource (again p q))) None)) m ∙ ap Some (argument-is u q x m)

      pub spares : All (λ (e : Extern_name × Type_tree). SparesOwn (opening names_by_place p (arguments s.top args) c) e.1) (exports c)
      spares = opening_spares names_by_place p (arguments s.top args) c (apart_outside c (all_at OwnApart (s.top.space in_components) i c ((o.apart zero s.top refl).space in_components) there))

    pub accepted : IsFree (instance_checks fs (tree_maker names_by_place p) s (instantiate i args)) → (c : Type_tree) × (component_at s.top i ≡ Some c) × Opens s.groups (argument_for (arguments s.top args) c) (arguments s.top args) c
    accepted free =
        let x = accepted_opens s o.table all i args fs (tree_maker names_by_place p) free in
        (x.0, x.1, x.2)

  pub instance-spared : (p : Place) (i : ℕ) (t : Type_tree) → type_of_sort is_instance s.top i ≡ Some t → SparesOwnIn (owned_anew names_by_place p (owned t)) (parts t)
  instance-spared p i t e = instance-spares p t (apart_outside t (of_some OwnApart (type_of_sort is_instance s.top i) t (of_sort_has own_apart_inherited Any s.top (o.apart zero s.top refl) is_instance i) e))

  -- ## Written types

  abbrev h : Reaches w k s
  h = reached-reaches fs w k s r

  abbrev ready : Ready (deeper w k) s
  ready = settles-ready w k s h.settles

  abbrev mk : Maker tree_reader
  mk = tree_maker names_by_place (deeper w k)

  -- what a written type gives is orderly, and its core types are of the table
  written-fits : (t : ComponentTypeRef) (b : Brought tree_reader) → written mk s.top t ≡ Some b → Fits b.entity
  written-fits t b e =
      let n : Extern_name = plain_name [] in
      let x = written-tidy (deeper w k) s.top (ready-leads (deeper w k) s ready) h.tidy.known (h.tidy.tidy zero s.top refl) (tidy-ready w k h.known s h.unknown h.tidy) t b e in
      let y = written-does (deeper w k) s ready exporting n t b e in
      let rest : Step tree_reader = creates exporting (tree_reader.creates b.entity) ∷ joins tree_reader true (sort b.entity) b.entity in
      let z : Fine (After (enters exporting n b) s) b.entity =
      All-head (Brings (Fine (After (enters exporting n b) s)) Any) (lists exporting n b.entity) rest (All-tail (Brings (Fine (After (enters exporting n b) s)) Any) (introduces exporting b.resources) (lists exporting n b.entity ∷ rest) y.brings) in
      (sound-orderly x.0 b.entity x.2.1 z.1, core-within s.groups b.entity (written-of (total s.groups) s.top ((reached-kept fs names_by_place w k s r).entries zero s.top refl) names_by_place (deeper w k) t b e))

  module _ (e : ComponentExport) (t : ComponentTypeRef) (x : Type_tree) (b : Brought tree_reader) (says : e.ty ≡ Some t) (there : exported_at s.top e ≡ Some x) (gives : written mk s.top t ≡ Some b) where
    ascribed : Decides (tree_reader.matches s.groups x b.entity) (TypeMatches s.groups x b.entity)
    ascribed = told x b.entity (all-get Fits (items_of s.top e.kind) e.index x (items_have Fits s.top all e.kind) there) (written-fits t b gives)

    pub matching : b.resources ≡ [] → TypeMatches s.groups x b.entity → Cause (export_checks fs mk s e) error.Mismatch → ⊥
    matching q y m =
        false≢true (sym (unmatched fs mk s e t x b says there gives m) ∙ (λ j. is_empty (q j) && ascribed.1 y j))

    pub matched : (Cause (export_checks fs mk s e) error.Mismatch → ⊥) → (b.resources ≡ []) × TypeMatches s.groups x b.entity
    matched n = go (is_empty b.resources && tree_reader.matches s.groups x b.entity) refl
      where
        go : (c : Bool) → (is_empty b.resources && tree_reader.matches s.groups x b.entity) ≡ c → (b.resources ≡ []) × TypeMatches s.groups x b.entity
        go true q = (empty-is b.resources (and_left (is_empty b.resources) (tree_reader.matches s.groups x b.entity) q), ascribed.0 (and_right (is_empty b.resources) (tree_reader.matches s.groups x b.entity) q))
        go false q = absurd (n (then-unmatched fs mk s e t x b says there gives q))

  pub ascribed-accepted : (e : ComponentExport) (t : ComponentTypeRef) → e.ty ≡ Some t → IsFree (export_checks fs mk s e) →
      (x : Type_tree) × (b : Brought tree_reader) × (exported_at s.top e ≡ Some x) × (written mk s.top t ≡ Some b) × (exported mk s.top e ≡ Some b) × (b.resources ≡ []) × TypeMatches s.groups x b.entity
  ascribed-accepted e t says free =
      let m = written_is_matched tree_reader fs mk s e t says free in
      (m.0, m.1, m.2, m.3, m.4, m.5, (ascribed e t m.0 m.1 says m.2 m.3).0 m.6)

  -- ## Start items

  param-fits : (f : ℕ) (x : Type_tree) → func_at s.top f ≡ Some x → All Fits (params x)
  param-fits f x e =
      let t : Fits x = all-get Fits (s.top.space in_funcs) f x (all.space in_funcs) e in
      let a = params-each (λ q ps. AreNamedApart ps) x t.0.0 in
      let b = params-each HeadLed x t.0.1 in
      let c = params-each (λ q ps. EachItem (IsEntityWithin (total s.groups)) (items_in ps)) x t.1 in
      λ i y l. ((a i y l, b i y l), c i y l)

  value-fits : (j : ℕ) → OfAny Fits (value_at s.top j)
  value-fits j = any_at Fits (s.top.space in_values) j (all.space in_values)

  suits-told : (v : Option Type_tree) (q : Type_tree) → OfAny Fits v → Fits q → Suits s.groups v q → suits tree_reader s.groups q v ≡ true
  suits-told None q x y m = refl
  suits-told (Some v) q x y m = let e : m.0 ≡ v = some-inj (sym m.1) in (told v q x y).1 (subst (λ (z : Type_tree). TypeMatches s.groups z q) e m.2)

  all-told : (args : List ℕ) (qs : List Type_tree) → All Fits qs → AllSuit s.groups (map (value_at s.top) args) qs → all_suit tree_reader s.groups (map (value_at s.top) args) qs ≡ true
  all-told [] qs a m = refl
  all-told (j ∷ args) [] a m = refl
  all-told (j ∷ args) (q ∷ qs) a m = λ i. suits-told (value_at s.top j) q (value-fits j) (All-head Fits q qs a) m.0 i && all-told args qs (All-tail Fits q qs a) m.1 i

  pub suiting : (f : ℕ) (args : List ℕ) (x : Type_tree) → func_at s.top f ≡ Some x → AllSuit s.groups (map (value_at s.top) args) (params x) → all_suit tree_reader s.groups (map (value_at s.top) args) (params x) ≡ true
  suiting f args x e m = all-told args (params x) (param-fits f x e) m

  found-suits : (v : Type_tree) (o : Option Type_tree) (q : Type_tree) → o ≡ Some v → OfAny Fits o → Fits q → suits tree_reader s.groups q o ≡ true → Suits s.groups o q
  found-suits v o q e x y m = (v, e, (told v q (of_some Fits o v x e) y).0 (subst (λ (z : Option Type_tree). suits tree_reader s.groups q z ≡ true) e m))

  all-suit : (args : List ℕ) (qs : List Type_tree) → All Fits qs → IsFree (all_checks (λ j. missing (value_at s.top j)) args) → length args ≡ length qs → all_suit tree_reader s.groups (map (value_at s.top) args) qs ≡ true → AllSuit s.groups (map (value_at s.top) args) qs
  all-suit [] [] a free l m = tt
  all-suit [] (q ∷ qs) a free l m = cc
  all-suit (j ∷ args) [] a free l m = cc
  all-suit (j ∷ args) (q ∷ qs) a free l m =
      let v = found_there (value_at s.top j) (free_left (missing (value_at s.top j)) (all_checks (λ j. missing (value_at s.top j)) args) free) in
      let first : Bool = suits tree_reader s.groups q (value_at s.top j) in
      let rest : Bool = all_suit tree_reader s.groups (map (value_at s.top) args) qs in (
        found-suits v.0 (value_at s.top j) q v.1 (value-fits j) (All-head Fits q qs a) (and_left first rest m),
        all-suit args qs (All-tail Fits q qs a) (free_right (missing (value_at s.top j)) (all_checks (λ j. missing (value_at s.top j)) args) free) (suc-same (length args) (length qs) l) (and_right first rest m),
      )

  pub start-accepted : (f : ℕ) (args : List ℕ) (n : ℕ) → IsFree (start_checks fs s f args n) → (x : Type_tree) × (func_at s.top f ≡ Some x) × AllSuit s.groups (map (value_at s.top) args) (params x)
  start-accepted f args n free =
      let there : Checks = missing (func_at s.top f) in
      let values : Checks = all_checks (λ j. missing (value_at s.top j)) args in
      let used : Checks = use_checks s.top args in
      let own : Checks = if_found (func_suits s.groups s.top args n) (func_at s.top f) in
      let behind : IsFree (there ++ (values ++ (used ++ own))) = (free_right (lacks fs cm_values) ((error.StartTwice, s.top.started) ∷ (there ++ (values ++ (used ++ own)))) free).1 in
      let x = found_there (func_at s.top f) (free_left there (values ++ (used ++ own)) behind) in
      let all_there : IsFree values = free_left values (used ++ own) (free_right there (values ++ (used ++ own)) behind) in
      let last : IsFree own = free_right used own (free_right values (used ++ own) (free_right there (values ++ (used ++ own)) behind)) in
      let suit : IsFree (func_suits s.groups s.top args n x.0) = subst (λ (z : Option Type_tree). IsFree (if_found (func_suits s.groups s.top args n) z)) x.1 last in
      let signed = free_left (signature_checks s.groups s.top args n x.0) (result_room s.top x.0) suit in
      (x.0, x.1, all-suit args (params x.0) (param-fits f x.0 x.1) all_there (equal-is (length args) (length (params x.0)) (not-false (eqb (length args) (length (params x.0))) signed.0)) (not-false (all_suit tree_reader s.groups (map (value_at s.top) args) (params x.0)) signed.1.1.0))

  -- ## Core instances

  abbrev core : AllEntries (OfTable (total s.groups)) s.top
  core = (reached-kept fs names_by_place w k s r).entries zero s.top refl

  offered-of : (o : Option Type_tree) → OfAny (OfTable (total s.groups)) o → All (λ (e : Core_export). IsEntityWithin (total s.groups) e.1) (exported_by tree_reader o)
  offered-of None x = All-nil (λ (e : Core_export). IsEntityWithin (total s.groups) e.1)
  offered-of (Some t) x = instance-items (total s.groups) t x

  offered-within : (args : List InstantiationArg) → EachArgument (IsEntityWithin (total s.groups)) (offered s.top args)
  offered-within [] = All-nil (λ (a : Text × List Core_export). All (λ (e : Core_export). IsEntityWithin (total s.groups) e.1) a.1)
  offered-within (a ∷ args) =
      All-cons (λ (b : Text × List Core_export). All (λ (e : Core_export). IsEntityWithin (total s.groups) e.1) b.1) (a.name, exported_by tree_reader (core_instance_at s.top a.index)) (offered s.top args)
      (offered-of (core_instance_at s.top a.index) (any_at (OfTable (total s.groups)) (s.top.core core_instances) a.index (core.core core_instances))) (offered-within args)

  pub served : (i : ℕ) (args : List InstantiationArg) (m : Type_tree) → core_module_at s.top i ≡ Some m → Decides (all_served s.groups (offered s.top args) (tree_reader.core_imports m)) (AllServed (ItemsMatch s.groups) (offered s.top args) (tree_reader.core_imports m))
  served i args m e =
      served_told s.groups (offered s.top args) (tree_reader.core_imports m) o.table (offered-within args)
      (module-items (total s.groups) m (all-get (OfTable (total s.groups)) (s.top.core core_modules) i m (core.core core_modules) e))
