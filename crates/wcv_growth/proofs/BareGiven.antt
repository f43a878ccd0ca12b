-- Where resources are replaced and nodes are given that are of the kind of those in whose place they stand, a type keeps its kind, and
-- instances that are entries own nothing still.
use Rattle.std.proofs.Common.{◌≡◌, List, [], ◌∷◌, ◌||◌, Bool, true, false, cond, refl, sym, ◌∙◌, ap, subst, Some, None, bytes_eq}
use Rattle.std.specs.Prelude.{Option, All, option_to_list}
use Rattle.std.specs.Map.{lookup}
use Rattle.std.specs.Option.{option_map, option_map_or}
use Rattle.std.proofs.lemmas.Bool.{false≢true}
use Rattle.std.proofs.lemmas.List.Elements.{All-nil, All-cons, All-append, All-head, All-tail}
use Rattle.wcv_core.specs.CoreForm.{Group}
use Rattle.wcv_core.specs.Names.{Name, Place, member, same}
use Rattle.wcv_core.proofs.Names.{same-refl, same-true}
use Rattle.wcv_types.specs.Identity.{Identity, of_node, of_reference, identity_at, same_identity}
use Rattle.wcv_types.specs.Replacing.{Replacement, given_or, moves, changed_in, new_head, replaced, replaced_in}
use Rattle.wcv_types.specs.Tree as tree
use Rattle.wcv_types.specs.Tree.{Text, Head, here, label, import, export, core_import, core_export, nothing, primitive, resource, defined, func, instance, component, type_entity, core_module, core_instance, core_type, core_item, node, Parts, none, part, first_part, head, owned, exports}
use Rattle.wcv_types.specs.Unfold.{Type_tree}
use Rattle.wcv_types.proofs.Lists.{some-inj}
use Rattle.wcv_matching.specs.AtomTests.{id_tests}
use Rattle.wcv_matching.specs.GivenTypes.{given_by, given_in, given_for}
use Rattle.wcv_matching.specs.Matching.{named, named_imports, opened_by}
use Rattle.wcv_matching.specs.OnePass.{given, argument_for, opens_pass}
use Rattle.wcv_matching.specs.Orderly.{EachNode, EachNodeIn}
use Rattle.wcv_lower.specs.Instantiated.{opening}
use Rattle.wcv_lower.specs.Names.{names_by_place}
use Rattle.wcv_lower.proofs.Given.{or_left}
use Rattle.wcv_matching.proofs.PassSame.{and_left, and_right}
use Rattle.wcv_growth.proofs.Alike.{SameKind, kind-sym, kind-both, IsAlike, IsOf, stands, known-kind, OfKind, AllKnown, given_for-kind}
use Rattle.wcv_growth.proofs.Bare.{OwnsNothing, EntriesOwnNothing, PartsOwnNothing, ValuesOwnNothing, exports-each, imports-each}

none-owned : (own : List Name) → ((r : Name) → member r own ≡ false) → own ≡ []
none-owned [] h = refl
none-owned (x ∷ xs) h = absurd (false≢true (sym (h x) ∙ or_left (same x x) (member x xs) (same-refl x)))

-- of the kind of what owns nothing
kind-bare : (t u : Type_tree) → SameKind t u → OwnsNothing u → OwnsNothing t
kind-bare t u k w = none-owned (owned t) (λ r. k.1 r ∙ ap (λ (rs : List Name). member r rs) w)

module _ (g : Name → Type_tree) (m : Replacement) (kinds : (i : Identity) (u : Type_tree) → m.nodes i ≡ Some u → SameKind u (stands g i)) where
  head-kind : (b : Bool) (h : Head Name Name) (ps qs : Parts Name Name) → SameKind (node (new_head m b h) qs) (node h ps)
  head-kind b (resource r s) ps qs = (refl, λ r. refl)
  head-kind true h ps qs = (refl, λ r. refl)
  head-kind false h ps qs = (refl, λ r. refl)

  -- it keeps its kind
  pub replaced-kind : (t : Type_tree) → EachNode (IsOf g) t → SameKind (replaced m t) t
  replaced-kind (node h ps) w = go (identity_at h) (known-kind g h ps w.0)
    where
      rebuilt : Type_tree
      rebuilt = node (new_head m (moves m h || changed_in m ps) h) (replaced_in m ps)

      found : (i : Identity) (o : Option Type_tree) → m.nodes i ≡ o → SameKind (node h ps) (stands g i) → SameKind (given_or o rebuilt) (node h ps)
      found i None e k = head-kind (moves m h || changed_in m ps) h ps (replaced_in m ps)
      found i (Some u) e k = kind-both u (stands g i) (node h ps) (kinds i u e) (kind-sym (node h ps) (stands g i) k)

      go : (o : Option Identity) → ((i : Identity) → o ≡ Some i → SameKind (node h ps) (stands g i)) → SameKind (given_or (elim o as (λ o. Option Type_tree) [ None ↦ None | Some i ↦ m.nodes i ]) rebuilt) (node h ps)
      go None k = head-kind (moves m h || changed_in m ps) h ps (replaced_in m ps)
      go (Some i) k = found i (m.nodes i) refl (k i refl)

  -- both types of an entity stay alike
  pub replaced-alike : (b : Bool) (h : Head Name Name) (ps : Parts Name Name) → EachNodeIn (IsOf g) ps → IsAlike h ps → IsAlike (new_head m b h) (replaced_in m ps)
  replaced-alike b type_entity none k w = w
  replaced-alike b type_entity (part r t none) k w = kind-both (replaced m t) t (node nothing none) (replaced-kind t k.0) w
  replaced-alike b type_entity (part r t (part l u ps)) k w = kind-both (replaced m t) t (replaced m u) (replaced-kind t k.0) (kind-both t u (replaced m u) w (kind-sym (replaced m u) u (replaced-kind u k.1.0)))
  replaced-alike b nothing ps k w = tt
  replaced-alike b (primitive p) ps k w = tt
  replaced-alike b (resource r s) ps k w = tt
  replaced-alike true (defined i x) ps k w = tt
  replaced-alike true (func i x) ps k w = tt
  replaced-alike true (instance i own) ps k w = tt
  replaced-alike true (component i ins outs) ps k w = tt
  replaced-alike true (core_module i x) ps k w = tt
  replaced-alike true (core_instance i x) ps k w = tt
  replaced-alike true (core_type i) ps k w = tt
  replaced-alike true (core_item x) ps k w = tt
  replaced-alike false (defined i x) ps k w = tt
  replaced-alike false (func i x) ps k w = tt
  replaced-alike false (instance i own) ps k w = tt
  replaced-alike false (component i ins outs) ps k w = tt
  replaced-alike false (core_module i x) ps k w = tt
  replaced-alike false (core_instance i x) ps k w = tt
  replaced-alike false (core_type i) ps k w = tt
  replaced-alike false (core_item x) ps k w = tt

  pub replaced-owns : (t : Type_tree) → EachNode (IsOf g) t → OwnsNothing t → OwnsNothing (replaced m t)
  replaced-owns t k w = kind-bare (replaced m t) t (replaced-kind t k) w

  -- and entries that own nothing own nothing
  pub entries-own : (ps : Parts Name Name) → EachNodeIn (IsOf g) ps → EntriesOwnNothing ps → EntriesOwnNothing (replaced_in m ps)
  entries-own none k w = tt
  entries-own (part (import n) t ps) k w = (replaced-owns t k.0 w.0, entries-own ps k.1 w.1)
  entries-own (part (export n) t ps) k w = (replaced-owns t k.0 w.0, entries-own ps k.1 w.1)
  entries-own (part here t ps) k w = entries-own ps k.1 w
  entries-own (part (label l) t ps) k w = entries-own ps k.1 w
  entries-own (part (core_import a n) t ps) k w = entries-own ps k.1 w
  entries-own (part (core_export n) t ps) k w = entries-own ps k.1 w

  parts-own : (ps : Parts Name Name) → EachNodeIn (IsOf g) ps → PartsOwnNothing ps → PartsOwnNothing (replaced_in m ps)
  parts-own none k w = tt
  parts-own (part l t ps) k w = (replaced-owns t k.0 w.0, parts-own ps k.1 w.1)

  -- so what a function takes and gives
  pub values-own : (b : Bool) (h : Head Name Name) (ps : Parts Name Name) → EachNodeIn (IsOf g) ps → ValuesOwnNothing h ps → ValuesOwnNothing (new_head m b h) (replaced_in m ps)
  values-own true (func i x) ps k w = parts-own ps k w
  values-own false (func i x) ps k w = parts-own ps k w
  values-own b nothing ps k w = tt
  values-own b (primitive p) ps k w = tt
  values-own b (resource r s) ps k w = tt
  values-own b type_entity ps k w = tt
  values-own true (defined i x) ps k w = tt
  values-own true (instance i own) ps k w = tt
  values-own true (component i ins outs) ps k w = tt
  values-own true (core_module i x) ps k w = tt
  values-own true (core_instance i x) ps k w = tt
  values-own true (core_type i) ps k w = tt
  values-own true (core_item x) ps k w = tt
  values-own false (defined i x) ps k w = tt
  values-own false (instance i own) ps k w = tt
  values-own false (component i ins outs) ps k w = tt
  values-own false (core_module i x) ps k w = tt
  values-own false (core_instance i x) ps k w = tt
  values-own false (core_type i) ps k w = tt
  values-own false (core_item x) ps k w = tt

-- ## What arguments give

-- what holds at each node of the arguments holds at each node of what they give
module _ (P : Head Name Name → Parts Name Name → Type 0) (left_out : P nothing none) where
  abbrev Gives : Identity × Type_tree → Type 0
  Gives x = EachNode P x.1

  abbrev AllEach : List (Text × Type_tree) → Type 0
  AllEach es = All (λ e. EachNode P e.1) es

  first-each : (ps : Parts Name Name) → EachNodeIn P ps → EachNode P (first_part ps)
  first-each none w = (left_out, tt)
  first-each (part k t ps) w = w.0

  created-each : (a : Type_tree) → EachNode P a → EachNode P (tree.created a)
  created-each (node h ps) w = first-each ps w.1

  one-gives : (o : Option Identity) (u : Type_tree) → EachNode P u → All Gives (option_to_list (option_map (λ i. (i, u)) o))
  one-gives None u w = All-nil Gives
  one-gives (Some i) u w = All-cons Gives (i, u) [] w (All-nil Gives)

  found-gives : (h : Type_tree → List (Identity × Type_tree)) → ((a : Type_tree) → EachNode P a → All Gives (h a)) → (n : Text) (es : List (Text × Type_tree)) → AllEach es → All Gives (option_map_or h (lookup (bytes_eq n) es) [])
  found-gives h k n [] v = All-nil Gives
  found-gives h k n (x ∷ es) v = go (bytes_eq n x.0) (found-gives h k n es (All-tail (λ (e : Text × Type_tree). EachNode P e.1) x es v))
    where
      go : (b : Bool) → All Gives (option_map_or h (lookup (bytes_eq n) es) []) → All Gives (option_map_or h (cond b (Some x.1) (lookup (bytes_eq n) es)) [])
      go true later = k x.1 (All-head (λ (e : Text × Type_tree). EachNode P e.1) x es v)
      go false later = later

  mutual
    given_by-each : (t a : Type_tree) → EachNode P a → All Gives (given_by a t)
    given_by-each (node type_entity ps) a w = one-gives (identity_at (head (tree.created (node type_entity ps)))) (tree.created a) (created-each a w)
    given_by-each (node (instance i own) ps) a w = given_in-each ps (named (exports a)) (exports-each P a w)
    given_by-each (node nothing ps) a w = All-nil Gives
    given_by-each (node (primitive p) ps) a w = All-nil Gives
    given_by-each (node (resource r s) ps) a w = All-nil Gives
    given_by-each (node (defined i x) ps) a w = All-nil Gives
    given_by-each (node (func i b) ps) a w = All-nil Gives
    given_by-each (node (component i ins outs) ps) a w = All-nil Gives
    given_by-each (node (core_module i n) ps) a w = All-nil Gives
    given_by-each (node (core_instance i n) ps) a w = All-nil Gives
    given_by-each (node (core_type i) ps) a w = All-nil Gives
    given_by-each (node (core_item x) ps) a w = All-nil Gives

    given_in-each : (ps : Parts Name Name) (es : List (Text × Type_tree)) → AllEach es → All Gives (given_in es ps)
    given_in-each none es w = All-nil Gives
    given_in-each (part (export n) t ps) es w =
        All-append Gives (option_map_or (λ a. given_by a t) (lookup (bytes_eq n.name) es) []) (given_in es ps) (found-gives (λ a. given_by a t) (λ a x. given_by-each t a x) n.name es w) (given_in-each ps es w)
    given_in-each (part here t ps) es w = given_in-each ps es w
    given_in-each (part (label l) t ps) es w = given_in-each ps es w
    given_in-each (part (import n) t ps) es w = given_in-each ps es w
    given_in-each (part (core_import a n) t ps) es w = given_in-each ps es w
    given_in-each (part (core_export n) t ps) es w = given_in-each ps es w

  pub given_for-each : (args is : List (Text × Type_tree)) → AllEach args → All Gives (given_for args is)
  given_for-each args [] w = All-nil Gives
  given_for-each args (i ∷ is) w =
      All-append Gives (option_map_or (λ a. given_by a i.1) (lookup (bytes_eq i.0) args) []) (given_for args is) (found-gives (λ a. given_by a i.1) (λ a x. given_by-each i.1 a x) i.0 args w) (given_for-each args is w)

pub same-one : (i j : Identity) → same_identity i j ≡ true → i ≡ j
same-one (of_node a) (of_node b) e = ap of_node (same-true a b e)
same-one (of_reference r x) (of_reference q y) e =
    let d : r ≡ q = same-true r q (and_left _ _ e) in
    let f : x ≡ y = same-true x y (and_right _ _ e) in
    (λ j. of_reference (d j) (f j))
same-one (of_node a) (of_reference q y) e = absurd (false≢true e)
same-one (of_reference r x) (of_node b) e = absurd (false≢true e)

-- what holds of each that is given holds of the first for an identity
pub looked-up : (Q : Identity × Type_tree → Type 0) (i : Identity) (xs : List (Identity × Type_tree)) (u : Type_tree) → All Q xs → lookup (same_identity i) xs ≡ Some u → Q (i, u)
looked-up Q i [] u a e = cc
looked-up Q i (x ∷ xs) u a e = go (same_identity i x.0) refl e (λ d. looked-up Q i xs u (All-tail Q x xs a) d)
  where
    go : (b : Bool) → same_identity i x.0 ≡ b → cond b (Some x.1) (lookup (same_identity i) xs) ≡ Some u → (lookup (same_identity i) xs ≡ Some u → Q (i, u)) → Q (i, u)
    go true h d later = let k : x.0 ≡ i = sym (same-one i x.0 h) in let v : x.1 ≡ u = some-inj d in subst Q (λ j. (k j, v j)) (All-head Q x xs a)
    go false h d later = later d

-- ## An instance of a component

module _ (gs : List Group) (g : Name → Type_tree) (p : Place) (args : List (Text × Type_tree)) (t : Type_tree) (known : AllKnown g args) (of : EachNode (IsOf g) t) (opens : opens_pass (id_tests gs) args t ≡ true) where
  pub opening-kinds : (i : Identity) (u : Type_tree) → (opening names_by_place p args t).nodes i ≡ Some u → SameKind u (stands g i)
  opening-kinds i u e = looked-up (OfKind g) i (given_for args (named_imports t)) u (given_for-kind g gs (λ r. given (opened_by (argument_for args t) t r)) args (named_imports t) opens known (imports-each (IsOf g) t of)) e
