-- Types in which each instance type owns each resource once and leads to it, and each component type does so with what it imports and
-- defines; what is made of them is sound.
use Rattle.std.proofs.Common.{◌≡◌, List, [], ◌∷◌, Bool, true, false, ◌||◌, cond, refl, sym, ◌∙◌, Some, None}
use Rattle.std.specs.Prelude.{All, Option}
use Rattle.std.proofs.lemmas.Bool.{false≢true}
use Rattle.std.proofs.lemmas.List.Elements.{All-nil, All-cons, All-head, All-tail}
use Rattle.wcv_core.specs.Names.{Name, Place, member}
use Rattle.wcv_types.specs.Identity.{Identity}
use Rattle.wcv_types.specs.Led.{HeadLed}
use Rattle.wcv_types.specs.Replacing.{Replacement, SparesOwn, SparesOwnIn, moves, changed_in, new_head, replaced, replaced_in}
use Rattle.wcv_types.specs.Resources.{owns}
use Rattle.wcv_types.specs.Tree.{Extern_name, Head, Role, here, label, import, export, core_import, core_export, nothing, resource, instance, component, type_entity, node, Parts, none, part, first_part, rest_parts, entries, exports_in, exports, type_of}
use Rattle.wcv_matching.specs.Orderly.{EachNode, EachNodeIn}
use Rattle.wcv_remap.specs.Hygiene.{Hygienic, HygienicIn}
use Rattle.wcv_remap.proofs.Leading.{head_led}
use Rattle.wcv_remap.proofs.Sparing.{sparing_hygienic}
use Rattle.wcv_lower.specs.Names.{Names, again}
use Rattle.wcv_lower.specs.NewTypes.{renewed, owned_anew, instance_tree}
use Rattle.wcv_lower.specs.Owned.{OwnsNot, OwnsNotIn, OwnsApart}
use Rattle.wcv_lower.specs.Trees.{Type_tree, Entries, created, referenced}
use Rattle.wcv_lower.proofs.Owning.{each_given, given_has, rebuilt}
use Rattle.wcv_growth.proofs.Having.{Once}

-- no name stands twice
abbrev pub Differ : List Name → Type 0
Differ [] = Unit {0}
Differ (x ∷ xs) = (member x xs ≡ false) × Differ xs

-- what an instance type owns it owns once, and what a component type defines it defines once
abbrev pub OwnsEachOnce : Head Name Name → Type 0
OwnsEachOnce (instance i own) = Differ own
OwnsEachOnce (component i ins outs) = Once outs
OwnsEachOnce h = Unit {0}

-- and paths lead to it, and to what a component type imports
abbrev pub IsSoundNode : Head Name Name → Parts Name Name → Type 0
IsSoundNode h ps = OwnsEachOnce h × HeadLed h ps

-- so each node inside the type
abbrev pub IsSound : Type_tree → Type 0
IsSound t = EachNode IsSoundNode t

abbrev pub AreSound : Parts Name Name → Type 0
AreSound ps = EachNodeIn IsSoundNode ps

-- ## Type entities

pub nothing-sound : IsSound (node nothing none)
nothing-sound = ((tt, tt), tt)

pub both-sound : (t u : Type_tree) → IsSound t → IsSound u → IsSound (type_of t u)
both-sound t u w v = ((tt, tt), (w, (v, tt)))

first-sound : (ps : Parts Name Name) → AreSound ps → IsSound (first_part ps)
first-sound none w = nothing-sound
first-sound (part k t ps) w = w.0

rest-sound : (ps : Parts Name Name) → AreSound ps → AreSound (rest_parts ps)
rest-sound none w = tt
rest-sound (part k t ps) w = w.1

pub created-sound : (t : Type_tree) → IsSound t → IsSound (created t)
created-sound (node type_entity ps) w =
    let u : IsSound (first_part ps) = first-sound ps w.1 in
    both-sound (first_part ps) (first_part ps) u u
created-sound (node h ps) w = w

pub referenced-sound : (t : Type_tree) → IsSound t → IsSound (referenced t)
referenced-sound (node type_entity ps) w = first-sound (rest_parts ps) (rest-sound ps w.1)
referenced-sound (node h ps) w = w

pub renewed-sound : (names : Names) (p : Place) (t : Type_tree) → IsSound t → IsSound (renewed names p t)
renewed-sound names p (node (instance i own) ps) w = w
renewed-sound names p (node (component i ins outs) ps) w = w
renewed-sound names p (node h ps) w = ((tt, tt), w.1)

-- ## Entries

pub entries-sound : (role : Extern_name → Role) (es : Entries) (rest : Parts Name Name) → All (λ e. IsSound e.1) es → AreSound rest → AreSound (entries role es rest)
entries-sound role [] rest a w = w
entries-sound role (e ∷ es) rest a w = (All-head (λ (x : Extern_name × Type_tree). IsSound x.1) e es a, entries-sound role es rest (All-tail (λ (x : Extern_name × Type_tree). IsSound x.1) e es a) w)

exports-sound_in : (ps : Parts Name Name) → AreSound ps → All (λ (e : Extern_name × Type_tree). IsSound e.1) (exports_in ps)
exports-sound_in none w = All-nil (λ (e : Extern_name × Type_tree). IsSound e.1)
exports-sound_in (part (export n) t ps) w = All-cons (λ (e : Extern_name × Type_tree). IsSound e.1) (n, t) (exports_in ps) w.0 (exports-sound_in ps w.1)
exports-sound_in (part (import n) t ps) w = exports-sound_in ps w.1
exports-sound_in (part here t ps) w = exports-sound_in ps w.1
exports-sound_in (part (label l) t ps) w = exports-sound_in ps w.1
exports-sound_in (part (core_import m n) t ps) w = exports-sound_in ps w.1
exports-sound_in (part (core_export n) t ps) w = exports-sound_in ps w.1

-- what a sound type exports is sound
pub exports-sound : (t : Type_tree) → IsSound t → All (λ (e : Extern_name × Type_tree). IsSound e.1) (exports t)
exports-sound (node h ps) w = exports-sound_in ps w.1

-- ## Where resources are replaced, and sound nodes are given

module _ (m : Replacement) (gives : (i : Identity) (u : Type_tree) → m.nodes i ≡ Some u → IsSound u) where
  head-sound : (b : Bool) (h : Head Name Name) (ps : Parts Name Name) → IsSoundNode h ps → IsSoundNode (new_head m b h) ps
  head-sound b (resource r s) ps w = (tt, tt)
  head-sound true h ps w = w
  head-sound false h ps w = w

  -- nothing that a node inside owns goes elsewhere, and no node is given that mentions it
  mutual
    pub replaced-sound : (t : Type_tree) → Hygienic m t → IsSound t → IsSound (replaced m t)
    replaced-sound (node h ps) y w =
        given_has m IsSound h (rebuilt m h ps) (each_given m IsSound gives (node h ps)).0
        (head-sound (moves m h || changed_in m ps) h (replaced_in m ps) (w.0.0, head_led m h ps y.0 w.0.1), replaced_in-sound ps y.1 w.1)

    replaced_in-sound : (ps : Parts Name Name) → HygienicIn m ps → AreSound ps → AreSound (replaced_in m ps)
    replaced_in-sound none y w = tt
    replaced_in-sound (part k t ps) y w = (replaced-sound t y.0 w.0, replaced_in-sound ps y.1 w.1)

-- ## An instance of an instance type

module _ (names : Names) (p : Place) (own : List Name) where
  mutual
    -- where none of these resources is owned inside, none that is owned there becomes another
    renewal-spares : (t : Type_tree) → ((r : Name) → member r own ≡ true → OwnsNot r t) → SparesOwn (owned_anew names p own) t
    renewal-spares (node h ps) w = (λ r o. go r o (member r own) refl, renewal-spares_in ps (λ r e. (w r e).1))
      where
        go : (r : Name) → owns h r ≡ true → (b : Bool) → member r own ≡ b → cond {A = Option Name} b (Some (names.resource (again p r))) None ≡ None
        go r o true e = absurd (false≢true (sym (w r e).0 ∙ o))
        go r o false e = refl

    pub renewal-spares_in : (ps : Parts Name Name) → ((r : Name) → member r own ≡ true → OwnsNotIn r ps) → SparesOwnIn (owned_anew names p own) ps
    renewal-spares_in none w = tt
    renewal-spares_in (part k t ps) w = (renewal-spares t (λ r e. (w r e).0), renewal-spares_in ps (λ r e. (w r e).1))

pub instance-sound : (names : Names) (p : Place) (t : Type_tree) → OwnsApart t → IsSound t → IsSound (instance_tree names p t)
instance-sound names p (node (instance i own) ps) apart w =
    replaced-sound m (λ i u e. cc) (node (instance i []) ps) (sparing_hygienic m (λ i. refl) (node (instance i []) ps) (λ r o. absurd (false≢true o), renewal-spares_in names p own ps apart)) ((tt, All-nil _), w.1)
  where
    m : Replacement
    m = owned_anew names p own
instance-sound names p (node h ps) apart w = w
