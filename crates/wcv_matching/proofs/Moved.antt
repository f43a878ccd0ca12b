-- Matching is the same for trees that were moved: free resources replaced, own ones and identities renamed.
use Rattle.std.proofs.Common.{◌≡◌, ℕ, zero, suc, List, [], ◌∷◌, map, Bool, true, false, cond, ◌||◌, refl, ap, sym, subst, ◌∙◌, inl, inr, ◌⊎◌, ⊎_elim}
use Rattle.std.proofs.Math.Path.{fun_ext}
use Rattle.std.specs.Bool.{one_answer}
use Rattle.wcv_core.specs.Names.{Name, member, same}
use Rattle.wcv_core.specs.declared.core_types.EntityType.{EntityType}
use Rattle.wcv_core.proofs.Names.{same-true, same-refl}
use Rattle.wcv_types.specs.Tree.{Text, Head, nothing, primitive, resource, defined, func, instance, component, type_entity, core_module, core_instance, core_type, core_item, Former, named, import, export, core_import, core_export, Tree, node, Parts, none, part, first_part, rest_parts, Sort, is_instance, is_component, is_type, is_module, sort_at, owned, imported_at}
use Rattle.wcv_types.specs.Rename.{rename_head, rename, rename_parts, rename_paths}
use Rattle.wcv_types.specs.Resources.{owns, RefersTo, Free, FreeIn}
use Rattle.wcv_types.specs.Seen.{Within, outer, inner, under, seen_defined, seen_head, seen, seen_parts}
use Rattle.wcv_types.specs.Unfold.{Type_tree}
use Rattle.wcv_closed.specs.CoreModules.{Module_items, ModuleMatches}
use Rattle.wcv_matching.specs.Matching.{Item_rule, Entries, Reading, outside, Fresh, within, made, in_component, atoms, Matching, MatchAs, MatchBelow, named_exports_in, named_imports_in}
use Rattle.wcv_matching.specs.ModuleItems.{item_at, before, core_imports_in, core_exports_in, module_items}
use Rattle.wcv_matching.proofs.NamedLists.{map-map, over, EachFound-over, EachFound-back}
use Rattle.wcv_matching.proofs.TreeParts.{EachPart, at_export, at_import, each-free, second-free, owns-type, below-as, ArePartsOf, two}

-- own resources are renamed by k, free ones replaced by u, identities renamed by g
abbrev pub move_head : (Name → Name) → (Name → Name) → (Name → Name) → Head Name Name → Head Name Name
move_head g k u nothing = nothing
move_head g k u (primitive p) = primitive p
move_head g k u (resource q s) = resource (u q) (g s)
move_head g k u (defined i f) = defined (g i) f
move_head g k u (func i b) = func (g i) b
move_head g k u (instance i own) = instance (g i) (map k own)
move_head g k u (component i ins outs) = component (g i) (rename_paths k ins) (rename_paths k outs)
move_head g k u type_entity = type_entity
move_head g k u (core_module i n) = core_module (g i) n
move_head g k u (core_instance i n) = core_instance (g i) n
move_head g k u (core_type i) = core_type i
move_head g k u (core_item e) = core_item e

abbrev pub moved : (Name → Name) → Head Name Name → (Name → Name) → Name → Name
moved k x u r = cond (owns x r) (k r) (u r)

abbrev mutual
  pub move : (Name → Name) → (Name → Name) → (Name → Name) → Type_tree → Type_tree
  move g k u (node x ps) = node (move_head g k u x) (move_parts g k (moved k x u) ps)

  pub move_parts : (Name → Name) → (Name → Name) → (Name → Name) → Parts Name Name → Parts Name Name
  move_parts g k u none = none
  move_parts g k u (part l t ps) = part l (move g k u t) (move_parts g k u ps)

-- a node that is moved owns what it owned, among the resources that its parts mention
abbrev mutual
  pub Moves : (Name → Name) → (Name → Name) → (Name → Name) → Type_tree → Type 0
  Moves g k u (node x ps) =
      ((r : Name) → FreeIn r ps → owns (move_head g k u x) (moved k x u r) ≡ owns x r) ×
      ((r : Name) → FreeIn r ps → owns x r ≡ true → member (k r) (imported_at (move_head g k u x)) ≡ member r (imported_at x)) ×
      MovesIn g k (moved k x u) ps

  pub MovesIn : (Name → Name) → (Name → Name) → (Name → Name) → Parts Name Name → Type 0
  MovesIn g k u none = Unit {0}
  MovesIn g k u (part l t ps) = Moves g k u t × MovesIn g k u ps

seen_defined-rename : {A B : Type 0} (h : A → B) (k : Former) → rename_head h (λ u. u) (seen_defined {A = A} k) ≡ seen_defined {A = B} k
seen_defined-rename h (named p) = refl
seen_defined-rename h _ = refl

sort_at-move : (g k u : Name → Name) (x : Head Name Name) → sort_at (move_head g k u x) ≡ sort_at x
sort_at-move g k u nothing = refl
sort_at-move g k u (primitive p) = refl
sort_at-move g k u (resource q s) = refl
sort_at-move g k u (defined i f) = refl
sort_at-move g k u (func i b) = refl
sort_at-move g k u (instance i own) = refl
sort_at-move g k u (component i ins outs) = refl
sort_at-move g k u type_entity = refl
sort_at-move g k u (core_module i w) = refl
sort_at-move g k u (core_instance i w) = refl
sort_at-move g k u (core_type i) = refl
sort_at-move g k u (core_item i) = refl

exports-move : (g k u : Name → Name) (ps : Parts Name Name) → named_exports_in (move_parts g k u ps) ≡ over (move g k u) (named_exports_in ps)
exports-move g k u none = refl
exports-move g k u (part (export n) t ps) = ap (λ es. (n.name, move g k u t) ∷ es) (exports-move g k u ps)
exports-move g k u (part _ t ps) = exports-move g k u ps

imports-move : (g k u : Name → Name) (ps : Parts Name Name) → named_imports_in (move_parts g k u ps) ≡ over (move g k u) (named_imports_in ps)
imports-move g k u none = refl
imports-move g k u (part (import n) t ps) = ap (λ es. (n.name, move g k u t) ∷ es) (imports-move g k u ps)
imports-move g k u (part _ t ps) = imports-move g k u ps

item_at-move : (g k u : Name → Name) (x : Head Name Name) → item_at (move_head g k u x) ≡ item_at x
item_at-move g k u nothing = refl
item_at-move g k u (primitive p) = refl
item_at-move g k u (resource q s) = refl
item_at-move g k u (defined i f) = refl
item_at-move g k u (func i b) = refl
item_at-move g k u (instance i own) = refl
item_at-move g k u (component i ins outs) = refl
item_at-move g k u type_entity = refl
item_at-move g k u (core_module i w) = refl
item_at-move g k u (core_instance i w) = refl
item_at-move g k u (core_type i) = refl
item_at-move g k u (core_item e) = refl

core_imports-move : (g k u : Name → Name) (ps : Parts Name Name) → core_imports_in (move_parts g k u ps) ≡ core_imports_in ps
core_imports-move g k u none = refl
core_imports-move g k u (part (core_import m n) (node x qs) ps) = λ j. before (m, n) (item_at-move g k u x j) (core_imports-move g k u ps j)
core_imports-move g k u (part _ t ps) = core_imports-move g k u ps

core_exports-move : (g k u : Name → Name) (ps : Parts Name Name) → core_exports_in (move_parts g k u ps) ≡ core_exports_in ps
core_exports-move g k u none = refl
core_exports-move g k u (part (core_export n) (node x qs) ps) = λ j. before n (item_at-move g k u x j) (core_exports-move g k u ps j)
core_exports-move g k u (part _ t ps) = core_exports-move g k u ps

-- what a core module imports and exports mentions no resource
pub module_items-move : (g k u : Name → Name) (t : Type_tree) → module_items (move g k u t) ≡ module_items t
module_items-move g k u (node x ps) = λ j. record { imports = core_imports-move g k (moved k x u) ps j; exports = core_exports-move g k (moved k x u) ps j }

second-move : (g k u : Name → Name) (ps : Parts Name Name) → first_part (rest_parts (move_parts g k u ps)) ≡ move g k u (first_part (rest_parts ps))
second-move g k u none = refl
second-move g k u (part l t none) = refl
second-move g k u (part l t (part l' t' ps)) = refl

second-moves : (g k u : Name → Name) (ps : Parts Name Name) → MovesIn g k u ps → Moves g k u (first_part (rest_parts ps))
second-moves g k u none a = (λ r q. absurd q, λ r q. absurd q, tt)
second-moves g k u (part l t none) a = (λ r q. absurd q, λ r q. absurd q, tt)
second-moves g k u (part l t (part l' t' ps)) a = a.1.0

each-moves : (g k u : Name → Name) (ps : Parts Name Name) → MovesIn g k u ps → EachPart (Moves g k u) ps
each-moves g k u none a = tt
each-moves g k u (part l t ps) a = (a.0, each-moves g k u ps a.1)

owned-move : (g k u : Name → Name) (t : Type_tree) → owned (move g k u t) ≡ map k (owned t)
owned-move g k u (node nothing ps) = refl
owned-move g k u (node (primitive p) ps) = refl
owned-move g k u (node (resource q s) ps) = refl
owned-move g k u (node (defined i f) ps) = refl
owned-move g k u (node (func i b) ps) = refl
owned-move g k u (node (instance i own) ps) = refl
owned-move g k u (node (component i ins outs) ps) = refl
owned-move g k u (node type_entity ps) = refl
owned-move g k u (node (core_module i w) ps) = refl
owned-move g k u (node (core_instance i w) ps) = refl
owned-move g k u (node (core_type i) ps) = refl
owned-move g k u (node (core_item i) ps) = refl

moved-type : (k : Name → Name) (x : Head Name Name) → sort_at x ≡ is_type → (u : Name → Name) → moved k x u ≡ u
moved-type k (instance i own) e u = cc
moved-type k (component i ins outs) e u = cc
moved-type k _ e u = refl

-- ## Two moves of one tree
-- c takes the own names of the first move to those of the second, h what is read
abbrev pub map_within : {A B : Type 0} → (Name → Name) → (A → B) → Within A → Within B
map_within c h (outer a) = outer (h a)
map_within c h (inner r) = inner (c r)

abbrev pub map_fresh : {A B : Type 0} → (Name → Name) → (A → B) → Fresh A → Fresh B
map_fresh c h (within w) = within (map_within c h w)
map_fresh c h (made r) = made (c r)

abbrev inner_at : {A : Type 0} → Name → Within A
inner_at r = inner r

module _ (g₁ k₁ g₂ k₂ c : Name → Name) (ck : (r : Name) → c (k₁ r) ≡ k₂ r) where
  under-tracks : {A B : Type 0} (h : A → B) (f₁ : Name → Within A) (f₂ : Name → Within B) (u₁ u₂ : Name → Name) (x : Head Name Name) (ps : Parts Name Name) →
      Moves g₁ k₁ u₁ (node x ps) → Moves g₂ k₂ u₂ (node x ps) → ((r : Name) → Free r (node x ps) → map_within c h (f₁ (u₁ r)) ≡ f₂ (u₂ r)) →
      (r : Name) → FreeIn r ps → map_within c h (under (move_head g₁ k₁ u₁ x) f₁ (moved k₁ x u₁ r)) ≡ under (move_head g₂ k₂ u₂ x) f₂ (moved k₂ x u₂ r)
  under-tracks h f₁ f₂ u₁ u₂ x ps m n p r free = go (owns x r) refl
    where
      go : (b : Bool) → owns x r ≡ b → map_within c h (under (move_head g₁ k₁ u₁ x) f₁ (moved k₁ x u₁ r)) ≡ under (move_head g₂ k₂ u₂ x) f₂ (moved k₂ x u₂ r)
      go true e = rw (m.0 r free, n.0 r free, e) (ap inner (ck r))
      go false e = rw (m.0 r free, n.0 r free, e) (p r (inr (e, free)))

  own-own : {A B : Type 0} (h : A → B) (own : List Name) → map (map_within c h) (map (λ r. inner r) (map k₁ own)) ≡ map (λ r. inner r) (map k₂ own)
  own-own h [] = refl
  own-own {A} {B} h (r ∷ rs) =
      let e : inner_at {A = B} (c (k₁ r)) ≡ inner_at (k₂ r) = ap inner_at (ck r) in
      let e' : map (map_within c h) (map (λ r. inner r) (map k₁ rs)) ≡ map (λ r. inner r) (map k₂ rs) = own-own h rs in
      cc

  path-path : {A B : Type 0} (h : A → B) (ps : List (Name × List ℕ)) →
      rename_paths (map_within c h) (rename_paths (λ r. inner r) (rename_paths k₁ ps)) ≡ rename_paths (λ r. inner r) (rename_paths k₂ ps)
  path-path h [] = refl
  path-path {A} {B} h (p ∷ ps) =
      let e : inner_at {A = B} (c (k₁ p.0)) ≡ inner_at (k₂ p.0) = ap inner_at (ck p.0) in
      let e' : rename_paths (map_within c h) (rename_paths (λ r. inner r) (rename_paths k₁ ps)) ≡ rename_paths (λ r. inner r) (rename_paths k₂ ps) = path-path h ps in
      cc

  seen_head-tracks : {A B : Type 0} (h : A → B) (f₁ : Name → Within A) (f₂ : Name → Within B) (u₁ u₂ : Name → Name) (x : Head Name Name) →
      ((r : Name) → RefersTo r x → map_within c h (f₁ (u₁ r)) ≡ f₂ (u₂ r)) →
      rename_head (map_within c h) (λ z. z) (seen_head f₁ (move_head g₁ k₁ u₁ x)) ≡ seen_head f₂ (move_head g₂ k₂ u₂ x)
  seen_head-tracks h f₁ f₂ u₁ u₂ nothing p = refl
  seen_head-tracks h f₁ f₂ u₁ u₂ (primitive q) p = refl
  seen_head-tracks h f₁ f₂ u₁ u₂ (resource q s) p = ap (λ z. resource z tt) (p q refl)
  seen_head-tracks h f₁ f₂ u₁ u₂ (defined i k) p = seen_defined-rename (map_within c h) k
  seen_head-tracks h f₁ f₂ u₁ u₂ (func i b) p = refl
  seen_head-tracks h f₁ f₂ u₁ u₂ (instance i own) p = ap (instance tt) (own-own h own)
  seen_head-tracks {A} {B} h f₁ f₂ u₁ u₂ (component i ins outs) p =
      let e : rename_paths (map_within c h) (rename_paths (λ r. inner r) (rename_paths k₁ ins)) ≡ rename_paths {S = Within B} (λ r. inner r) (rename_paths k₂ ins) = path-path {A = A} h ins in
      let e' : rename_paths (map_within c h) (rename_paths (λ r. inner r) (rename_paths k₁ outs)) ≡ rename_paths {S = Within B} (λ r. inner r) (rename_paths k₂ outs) = path-path {A = A} h outs in
      cc
  seen_head-tracks h f₁ f₂ u₁ u₂ type_entity p = refl
  seen_head-tracks h f₁ f₂ u₁ u₂ (core_module i w) p = refl
  seen_head-tracks h f₁ f₂ u₁ u₂ (core_instance i w) p = refl
  seen_head-tracks h f₁ f₂ u₁ u₂ (core_type i) p = refl
  seen_head-tracks h f₁ f₂ u₁ u₂ (core_item i) p = refl

  mutual
    pub seen-tracks : {A B : Type 0} (h : A → B) (f₁ : Name → Within A) (f₂ : Name → Within B) (u₁ u₂ : Name → Name) (t : Type_tree) → Moves g₁ k₁ u₁ t → Moves g₂ k₂ u₂ t →
        ((r : Name) → Free r t → map_within c h (f₁ (u₁ r)) ≡ f₂ (u₂ r)) → rename (map_within c h) (λ z. z) (seen f₁ (move g₁ k₁ u₁ t)) ≡ seen f₂ (move g₂ k₂ u₂ t)
    seen-tracks h f₁ f₂ u₁ u₂ (node x ps) m n p =
        let e : rename_head (map_within c h) (λ z. z) (seen_head f₁ (move_head g₁ k₁ u₁ x)) ≡ seen_head f₂ (move_head g₂ k₂ u₂ x) =
        seen_head-tracks h f₁ f₂ u₁ u₂ x (λ r q. p r (inl q)) in
        let e' : rename_parts (map_within c h) (λ z. z) (seen_parts (under (move_head g₁ k₁ u₁ x) f₁) (move_parts g₁ k₁ (moved k₁ x u₁) ps)) ≡
        seen_parts (under (move_head g₂ k₂ u₂ x) f₂) (move_parts g₂ k₂ (moved k₂ x u₂) ps) =
        seen_parts-tracks h (under (move_head g₁ k₁ u₁ x) f₁) (under (move_head g₂ k₂ u₂ x) f₂) (moved k₁ x u₁) (moved k₂ x u₂) ps m.2 n.2 (under-tracks h f₁ f₂ u₁ u₂ x ps m n p) in
        cc

    pub seen_parts-tracks : {A B : Type 0} (h : A → B) (f₁ : Name → Within A) (f₂ : Name → Within B) (u₁ u₂ : Name → Name) (ps : Parts Name Name) → MovesIn g₁ k₁ u₁ ps → MovesIn g₂ k₂ u₂ ps →
        ((r : Name) → FreeIn r ps → map_within c h (f₁ (u₁ r)) ≡ f₂ (u₂ r)) → rename_parts (map_within c h) (λ z. z) (seen_parts f₁ (move_parts g₁ k₁ u₁ ps)) ≡ seen_parts f₂ (move_parts g₂ k₂ u₂ ps)
    seen_parts-tracks h f₁ f₂ u₁ u₂ none m n p = refl
    seen_parts-tracks h f₁ f₂ u₁ u₂ (part l t ps) m n p =
        let e : rename (map_within c h) (λ z. z) (seen f₁ (move g₁ k₁ u₁ t)) ≡ seen f₂ (move g₂ k₂ u₂ t) = seen-tracks h f₁ f₂ u₁ u₂ t m.0 n.0 (λ r q. p r (inl q)) in
        let e' : rename_parts (map_within c h) (λ z. z) (seen_parts f₁ (move_parts g₁ k₁ u₁ ps)) ≡ seen_parts f₂ (move_parts g₂ k₂ u₂ ps) = seen_parts-tracks h f₁ f₂ u₁ u₂ ps m.1 n.1 (λ r q. p r (inr q)) in
        cc

  -- ## Matching

  in_component-tracks : {A B : Type 0} (h : Fresh A → Fresh B) (u₁ u₂ : Name → Name) (x : Head Name Name) (ps : Parts Name Name) (s₁ t₁ : Reading (Fresh A)) (f₁ : Reading A) (s₂ t₂ : Reading (Fresh B)) (f₂ : Reading B) →
      Moves g₁ k₁ u₁ (node x ps) → Moves g₂ k₂ u₂ (node x ps) →
      ((r : Name) → h (s₁ (k₁ r)) ≡ s₂ (k₂ r)) → ((r : Name) → h (t₁ (k₁ r)) ≡ t₂ (k₂ r)) →
      ((r : Name) → Free r (node x ps) → h (within (outer (f₁ (u₁ r)))) ≡ within (outer (f₂ (u₂ r)))) →
      (r : Name) → FreeIn r ps → h (in_component (move_head g₁ k₁ u₁ x) s₁ t₁ f₁ (moved k₁ x u₁ r)) ≡ in_component (move_head g₂ k₂ u₂ x) s₂ t₂ f₂ (moved k₂ x u₂ r)
  in_component-tracks h u₁ u₂ x ps s₁ t₁ f₁ s₂ t₂ f₂ m n p q w r free = go (owns x r) refl
    where
      go : (b : Bool) → owns x r ≡ b → h (in_component (move_head g₁ k₁ u₁ x) s₁ t₁ f₁ (moved k₁ x u₁ r)) ≡ in_component (move_head g₂ k₂ u₂ x) s₂ t₂ f₂ (moved k₂ x u₂ r)
      go true e = rw (m.0 r free, n.0 r free, e, m.1 r free e, n.1 r free e) (two h (member r (imported_at x)) _ _ _ _ (p r) (q r))
      go false e = rw (m.0 r free, n.0 r free, e) (w r (inr (e, free)))

-- the members of two lists are the same
abbrev pub SameMembers : List Name → List Name → Type 0
SameMembers xs ys = (r : Name) → member r xs ≡ member r ys

or_cases : (a b : Bool) → (a || b) ≡ true → (a ≡ true) ⊎ (b ≡ true)
or_cases true b h = inl refl
or_cases false b h = inr h

or_right : (a b : Bool) → b ≡ true → (a || b) ≡ true
or_right true b h = refl
or_right false b h = h

pub member-map_in : (f : Name → Name) (x : Name) (xs : List Name) → member x xs ≡ true → member (f x) (map f xs) ≡ true
member-map_in f x [] h = cc
member-map_in f x (y ∷ ys) h =
    ⊎_elim (λ (e : same x y ≡ true). ap (λ (z : Name). same (f x) (f z) || member (f x) (map f ys)) (sym (same-true x y e)) ∙ ap (λ (b : Bool). b || member (f x) (map f ys)) (same-refl (f x)))
    (λ (e : member x ys ≡ true). or_right (same (f x) (f y)) _ (member-map_in f x ys e)) (or_cases (same x y) (member x ys) h)

pub member-map_from : (f : Name → Name) (r : Name) (xs : List Name) → member r (map f xs) ≡ true → (x : Name) × (member x xs ≡ true) × (r ≡ f x)
member-map_from f r [] h = cc
member-map_from f r (y ∷ ys) h =
    ⊎_elim (λ (e : same r (f y) ≡ true). (y, ap (λ (b : Bool). b || member y ys) (same-refl y), same-true r (f y) e))
    (λ (e : member r (map f ys) ≡ true). let w = member-map_from f r ys e in (w.0, or_right (same w.0 y) _ w.1, w.2)) (or_cases (same r (f y)) (member r (map f ys)) h)

members-map : (f : Name → Name) (xs ys : List Name) → SameMembers xs ys → SameMembers (map f xs) (map f ys)
members-map f xs ys m r = one_answer (member r (map f xs)) (member r (map f ys)) (one xs ys m, one ys xs (λ q. sym (m q))) (λ h. h, λ h. h)
  where
    one : (xs ys : List Name) → SameMembers xs ys → member r (map f xs) ≡ true → member r (map f ys) ≡ true
    one xs ys m h =
        let w = member-map_from f r xs h in
        ap (λ (z : Name). member z (map f ys)) w.2 ∙ member-map_in f w.0 ys (sym (m w.0) ∙ w.1)

module _ (C : Item_rule) where
  pub each-as : (d : ℕ) (B : Type 0) (f f' g g' : Reading B) (xs xs' ys ys' : List (Text × Type_tree)) → f ≡ f' → g ≡ g' → xs ≡ xs' → ys ≡ ys' →
      Entries (MatchBelow C d B f g) xs ys → Entries (MatchBelow C d B f' g') xs' ys'
  each-as d B f f' g g' xs xs' ys ys' e₁ e₂ e₃ e₄ m =
      subst (λ w. Entries (MatchBelow C d B f' g') xs' w) e₄
      (subst (λ w. Entries (MatchBelow C d B f' g') w ys) e₃
      (subst (λ w. Entries (MatchBelow C d B f' w) xs ys) e₂
      (subst (λ w. Entries (MatchBelow C d B w g) xs ys) e₁ m)))

module _ (C : Item_rule) where
  module _ (g₁ k₁ g₂ k₂ c e : Name → Name) (ck : (r : Name) → c (k₁ r) ≡ k₂ r) (ek : (r : Name) → e (k₂ r) ≡ k₁ r) where
    -- what the lemma below says of M
    abbrev pub Carries : Matching → Type 1
    Carries M = (A B : Type 0) (h : A → B) (f₁ g'₁ : Reading A) (f₂ g'₂ : Reading B) (u₁ u₂ v₁ v₂ : Name → Name) (a b : Type_tree) →
        Moves g₁ k₁ u₁ a → Moves g₂ k₂ u₂ a → Moves g₁ k₁ v₁ b → Moves g₂ k₂ v₂ b →
        ((r : Name) → Free r a → h (f₁ (u₁ r)) ≡ f₂ (u₂ r)) → ((r : Name) → Free r b → h (g'₁ (v₁ r)) ≡ g'₂ (v₂ r)) →
        M A f₁ g'₁ (move g₁ k₁ u₁ a) (move g₁ k₁ v₁ b) → M B f₂ g'₂ (move g₂ k₂ u₂ a) (move g₂ k₂ v₂ b)

    each-carry : (d : ℕ) → Carries (MatchBelow C d) → (A B : Type 0) (h : A → B) (f₁ g'₁ : Reading A) (f₂ g'₂ : Reading B) (u₁ u₂ v₁ v₂ : Name → Name) (ps qs : Parts Name Name) (xs ys : List (Text × Type_tree)) →
        ArePartsOf xs ps → ArePartsOf ys qs → MovesIn g₁ k₁ u₁ ps → MovesIn g₂ k₂ u₂ ps → MovesIn g₁ k₁ v₁ qs → MovesIn g₂ k₂ v₂ qs →
        ((r : Name) → FreeIn r ps → h (f₁ (u₁ r)) ≡ f₂ (u₂ r)) → ((r : Name) → FreeIn r qs → h (g'₁ (v₁ r)) ≡ g'₂ (v₂ r)) →
        Entries (MatchBelow C d A f₁ g'₁) (over (move g₁ k₁ u₁) xs) (over (move g₁ k₁ v₁) ys) → Entries (MatchBelow C d B f₂ g'₂) (over (move g₂ k₂ u₂) xs) (over (move g₂ k₂ v₂) ys)
    each-carry d ih A B h f₁ g'₁ f₂ g'₂ u₁ u₂ v₁ v₂ ps qs xs ys is js m n m' n' p q z =
        EachFound-over Between (MatchBelow C d B f₂ g'₂) (move g₂ k₂ u₂) (move g₂ k₂ v₂) xs ys
        (λ n₀ x y cx cy w. ih A B h f₁ g'₁ f₂ g'₂ u₁ u₂ v₁ v₂ x y
        (is (Moves g₁ k₁ u₁) (each-moves g₁ k₁ u₁ ps m) n₀ x cx) (is (Moves g₂ k₂ u₂) (each-moves g₂ k₂ u₂ ps n) n₀ x cx)
        (js (Moves g₁ k₁ v₁) (each-moves g₁ k₁ v₁ qs m') n₀ y cy) (js (Moves g₂ k₂ v₂) (each-moves g₂ k₂ v₂ qs n') n₀ y cy)
        (λ r k. p r (is (λ t. Free r t → FreeIn r ps) (each-free r ps ps (λ w. w)) n₀ x cx k))
        (λ r k. q r (js (λ t. Free r t → FreeIn r qs) (each-free r qs qs (λ w. w)) n₀ y cy k)) w)
        (EachFound-back Between (MatchBelow C d A f₁ g'₁) (move g₁ k₁ u₁) (move g₁ k₁ v₁) xs ys (λ n₀ x y cx cy w. w) z)
      where
        Between : Type_tree → Type_tree → Type 0
        Between x y = MatchBelow C d A f₁ g'₁ (move g₁ k₁ u₁ x) (move g₁ k₁ v₁ y)

    owned-carry : (u₁ u₂ v₁ v₂ : Name → Name) (a b : Type_tree) → SameMembers (owned (move g₁ k₁ u₁ a)) (owned (move g₁ k₁ v₁ b)) → SameMembers (owned (move g₂ k₂ u₂ a)) (owned (move g₂ k₂ v₂ b))
    owned-carry u₁ u₂ v₁ v₂ a b m r =
        let again : (xs : List Name) → map c (map k₁ xs) ≡ map k₂ xs = λ xs. map-map c k₁ xs ∙ ap (λ (f : Name → Name). map f xs) (fun_ext ck) in
        let one : SameMembers (map k₁ (owned a)) (map k₁ (owned b)) =
        λ q. ap (member q) (sym (owned-move g₁ k₁ u₁ a)) ∙ m q ∙ ap (member q) (owned-move g₁ k₁ v₁ b) in
        ap (member r) (owned-move g₂ k₂ u₂ a ∙ sym (again (owned a))) ∙ members-map c _ _ one r ∙ ap (member r) (again (owned b) ∙ sym (owned-move g₂ k₂ v₂ b))

    MatchAs-carry : (d : ℕ) → Carries (MatchBelow C d) → (s : Sort) (A B : Type 0) (h : A → B) (f₁ g'₁ : Reading A) (f₂ g'₂ : Reading B) (u₁ u₂ v₁ v₂ : Name → Name) (x y : Head Name Name) (ps qs : Parts Name Name) →
        sort_at x ≡ s → sort_at y ≡ s →
        Moves g₁ k₁ u₁ (node x ps) → Moves g₂ k₂ u₂ (node x ps) → Moves g₁ k₁ v₁ (node y qs) → Moves g₂ k₂ v₂ (node y qs) →
        ((r : Name) → Free r (node x ps) → h (f₁ (u₁ r)) ≡ f₂ (u₂ r)) → ((r : Name) → Free r (node y qs) → h (g'₁ (v₁ r)) ≡ g'₂ (v₂ r)) →
        MatchAs C (MatchBelow C d) s A f₁ g'₁ (move g₁ k₁ u₁ (node x ps)) (move g₁ k₁ v₁ (node y qs)) → MatchAs C (MatchBelow C d) s B f₂ g'₂ (move g₂ k₂ u₂ (node x ps)) (move g₂ k₂ v₂ (node y qs))
    MatchAs-carry d ih is_instance A B h f₁ g'₁ f₂ g'₂ u₁ u₂ v₁ v₂ x y ps qs ex ey m n m' n' p q w =
        each-as C d (Within B) _ _ _ _ _ _ _ _ refl refl (sym (exports-move g₂ k₂ (moved k₂ x u₂) ps)) (sym (exports-move g₂ k₂ (moved k₂ y v₂) qs))
        (each-carry d ih (Within A) (Within B) (map_within c h)
        (under (move_head g₁ k₁ u₁ x) (outside f₁)) (under (move_head g₁ k₁ v₁ y) (outside g'₁)) (under (move_head g₂ k₂ u₂ x) (outside f₂)) (under (move_head g₂ k₂ v₂ y) (outside g'₂))
        (moved k₁ x u₁) (moved k₂ x u₂) (moved k₁ y v₁) (moved k₂ y v₂) ps qs (named_exports_in ps) (named_exports_in qs) (λ P. at_export P ps) (λ P. at_export P qs) m.2 n.2 m'.2 n'.2
        (under-tracks g₁ k₁ g₂ k₂ c ck h (outside f₁) (outside f₂) u₁ u₂ x ps m n (λ r k. ap (λ (z : B). outer z) (p r k)))
        (under-tracks g₁ k₁ g₂ k₂ c ck h (outside g'₁) (outside g'₂) v₁ v₂ y qs m' n' (λ r k. ap (λ (z : B). outer z) (q r k)))
        (each-as C d (Within A) _ _ _ _ _ _ _ _ refl refl (exports-move g₁ k₁ (moved k₁ x u₁) ps) (exports-move g₁ k₁ (moved k₁ y v₁) qs) w))
    MatchAs-carry d ih is_type A B h f₁ g'₁ f₂ g'₂ u₁ u₂ v₁ v₂ x y ps qs ex ey m n m' n' p q w =
        let X = first_part (rest_parts ps) in
        let Y = first_part (rest_parts qs) in
        let as_x : (g k u : Name → Name) → first_part (rest_parts (move_parts g k (moved k x u) ps)) ≡ move g k u X =
        λ g k u. second-move g k (moved k x u) ps ∙ ap (λ (z : Name → Name). move g k z X) (moved-type k x ex u) in
        let as_y : (g k u : Name → Name) → first_part (rest_parts (move_parts g k (moved k y u) qs)) ≡ move g k u Y =
        λ g k u. second-move g k (moved k y u) qs ∙ ap (λ (z : Name → Name). move g k z Y) (moved-type k y ey u) in
        let mx : (g k u : Name → Name) → MovesIn g k (moved k x u) ps → Moves g k u X =
        λ g k u z. second-moves g k u ps (subst (λ (z : Name → Name). MovesIn g k z ps) (moved-type k x ex u) z) in
        let my : (g k u : Name → Name) → MovesIn g k (moved k y u) qs → Moves g k u Y =
        λ g k u z. second-moves g k u qs (subst (λ (z : Name → Name). MovesIn g k z qs) (moved-type k y ey u) z) in
        let px : (r : Name) → Free r X → h (f₁ (u₁ r)) ≡ f₂ (u₂ r) = λ r k. p r (inr (owns-type x ex r, second-free r ps k)) in
        let py : (r : Name) → Free r Y → h (g'₁ (v₁ r)) ≡ g'₂ (v₂ r) = λ r k. q r (inr (owns-type y ey r, second-free r qs k)) in
        let one = ih A B h f₁ g'₁ f₂ g'₂ u₁ u₂ v₁ v₂ X Y (mx g₁ k₁ u₁ m.2) (mx g₂ k₂ u₂ n.2) (my g₁ k₁ v₁ m'.2) (my g₂ k₂ v₂ n'.2) px py
        (below-as C d A f₁ g'₁ _ _ _ _ (as_x g₁ k₁ u₁) (as_y g₁ k₁ v₁) w.0) in
        let other = ih A B h g'₁ f₁ g'₂ f₂ v₁ v₂ u₁ u₂ Y X (my g₁ k₁ v₁ m'.2) (my g₂ k₂ v₂ n'.2) (mx g₁ k₁ u₁ m.2) (mx g₂ k₂ u₂ n.2) py px
        (below-as C d A g'₁ f₁ _ _ _ _ (as_y g₁ k₁ v₁) (as_x g₁ k₁ u₁) w.1) in
        let same_own : SameMembers (owned (move g₁ k₁ u₁ X)) (owned (move g₁ k₁ v₁ Y)) =
        λ r. ap (λ (z : Type_tree). member r (owned z)) (sym (as_x g₁ k₁ u₁)) ∙ w.2 r ∙ ap (λ (z : Type_tree). member r (owned z)) (as_y g₁ k₁ v₁) in (
          below-as C d B f₂ g'₂ _ _ _ _ (sym (as_x g₂ k₂ u₂)) (sym (as_y g₂ k₂ v₂)) one,
          below-as C d B g'₂ f₂ _ _ _ _ (sym (as_y g₂ k₂ v₂)) (sym (as_x g₂ k₂ u₂)) other,
          λ r. ap (λ (z : Type_tree). member r (owned z)) (as_x g₂ k₂ u₂) ∙ owned-carry u₁ u₂ v₁ v₂ X Y same_own r ∙
              ap (λ (z : Type_tree). member r (owned z)) (sym (as_y g₂ k₂ v₂)),
        )
    MatchAs-carry d ih is_component A B h f₁ g'₁ f₂ g'₂ u₁ u₂ v₁ v₂ x y ps qs ex ey m n m' n' p q w =
        let s₂ : Reading (Within B) = λ r. map_within c h (w.0 (e r)) in
        let t₂ : Reading (Fresh B) = λ r. map_fresh c h (w.1 (e r)) in
        let sw₁ : Reading (Fresh A) = λ r. within (w.0 r) in
        let sw₂ : Reading (Fresh B) = λ r. within (s₂ r) in
        let hh : Fresh A → Fresh B = map_fresh c h in
        let es : (r : Name) → hh (sw₁ (k₁ r)) ≡ sw₂ (k₂ r) = λ r. ap (λ (z : Name). hh (sw₁ z)) (sym (ek r)) in
        let et : (r : Name) → hh (w.1 (k₁ r)) ≡ t₂ (k₂ r) = λ r. ap (λ (z : Name). hh (w.1 z)) (sym (ek r)) in
        let em : (r : Name) → hh (made (k₁ r)) ≡ made (k₂ r) = λ r. ap (λ (z : Name). made z) (ck r) in
        let ea : (r : Name) → hh (atoms (k₁ r)) ≡ atoms (k₂ r) = λ r. ap (λ (z : Name). within (inner z)) (ck r) in
        let px : (r : Name) → Free r (node x ps) → hh (within (outer (f₁ (u₁ r)))) ≡ within (outer (f₂ (u₂ r))) = λ r k. ap (λ (z : B). within (outer z)) (p r k) in
        let py : (r : Name) → Free r (node y qs) → hh (within (outer (g'₁ (v₁ r)))) ≡ within (outer (g'₂ (v₂ r))) = λ r k. ap (λ (z : B). within (outer z)) (q r k) in
        let tr = in_component-tracks g₁ k₁ g₂ k₂ c ck hh in
        let lx = tr u₁ u₂ x ps sw₁ made f₁ sw₂ made f₂ m n es em px in (
          s₂,
          t₂,
          each-as C d (Fresh B) _ _ _ _ _ _ _ _ refl refl (sym (imports-move g₂ k₂ (moved k₂ y v₂) qs)) (sym (imports-move g₂ k₂ (moved k₂ x u₂) ps))
              (each-carry d ih (Fresh A) (Fresh B) hh
              (in_component (move_head g₁ k₁ v₁ y) atoms made g'₁) (in_component (move_head g₁ k₁ u₁ x) sw₁ made f₁) (in_component (move_head g₂ k₂ v₂ y) atoms made g'₂) (in_component (move_head g₂ k₂ u₂ x) sw₂ made f₂)
              (moved k₁ y v₁) (moved k₂ y v₂) (moved k₁ x u₁) (moved k₂ x u₂) qs ps (named_imports_in qs) (named_imports_in ps) (λ P. at_import P qs) (λ P. at_import P ps) m'.2 n'.2 m.2 n.2
              (tr v₁ v₂ y qs atoms made g'₁ atoms made g'₂ m' n' ea em py) lx
              (each-as C d (Fresh A) _ _ _ _ _ _ _ _ refl refl (imports-move g₁ k₁ (moved k₁ y v₁) qs) (imports-move g₁ k₁ (moved k₁ x u₁) ps) w.2)),
          each-as C d (Fresh B) _ _ _ _ _ _ _ _ refl refl (sym (exports-move g₂ k₂ (moved k₂ x u₂) ps)) (sym (exports-move g₂ k₂ (moved k₂ y v₂) qs))
              (each-carry d ih (Fresh A) (Fresh B) hh
              (in_component (move_head g₁ k₁ u₁ x) sw₁ made f₁) (in_component (move_head g₁ k₁ v₁ y) atoms w.1 g'₁) (in_component (move_head g₂ k₂ u₂ x) sw₂ made f₂) (in_component (move_head g₂ k₂ v₂ y) atoms t₂ g'₂)
              (moved k₁ x u₁) (moved k₂ x u₂) (moved k₁ y v₁) (moved k₂ y v₂) ps qs (named_exports_in ps) (named_exports_in qs) (λ P. at_export P ps) (λ P. at_export P qs) m.2 n.2 m'.2 n'.2
              lx (tr v₁ v₂ y qs atoms w.1 g'₁ atoms t₂ g'₂ m' n' ea et py)
              (each-as C d (Fresh A) _ _ _ _ _ _ _ _ refl refl (exports-move g₁ k₁ (moved k₁ x u₁) ps) (exports-move g₁ k₁ (moved k₁ y v₁) qs) w.3)),
        )
    MatchAs-carry d ih is_module A B h f₁ g'₁ f₂ g'₂ u₁ u₂ v₁ v₂ x y ps qs ex ey m n m' n' p q w =
        subst (λ (z : Module_items EntityType). ModuleMatches C z (module_items (move g₂ k₂ v₂ (node y qs)))) (module_items-move g₁ k₁ u₁ (node x ps) ∙ sym (module_items-move g₂ k₂ u₂ (node x ps)))
        (subst (λ (z : Module_items EntityType). ModuleMatches C (module_items (move g₁ k₁ u₁ (node x ps))) z) (module_items-move g₁ k₁ v₁ (node y qs) ∙ sym (module_items-move g₂ k₂ v₂ (node y qs))) w)
    MatchAs-carry d ih _ A B h f₁ g'₁ f₂ g'₂ u₁ u₂ v₁ v₂ x y ps qs ex ey m n m' n' p q w =
        sym (seen-tracks g₁ k₁ g₂ k₂ c ck h (outside f₁) (outside f₂) u₁ u₂ (node x ps) m n (λ r k. ap (λ (z : B). outer z) (p r k))) ∙
        ap (λ (z : Tree (Within A) (Unit {0})). rename (map_within c h) (λ w. w) z) w ∙
        seen-tracks g₁ k₁ g₂ k₂ c ck h (outside g'₁) (outside g'₂) v₁ v₂ (node y qs) m' n' (λ r k. ap (λ (z : B). outer z) (q r k))

    pub MatchBelow-carry : (d : ℕ) → Carries (MatchBelow C d)
    MatchBelow-carry zero A B h f₁ g'₁ f₂ g'₂ u₁ u₂ v₁ v₂ a b m n m' n' p q w = absurd w
    MatchBelow-carry (suc d) A B h f₁ g'₁ f₂ g'₂ u₁ u₂ v₁ v₂ (node x ps) (node y qs) m n m' n' p q w =
        let same_sort : sort_at x ≡ sort_at y = sym (sort_at-move g₁ k₁ u₁ x) ∙ w.0 ∙ sort_at-move g₁ k₁ v₁ y in (
          sort_at-move g₂ k₂ u₂ x ∙ same_sort ∙ sym (sort_at-move g₂ k₂ v₂ y),
          subst (λ (s : Sort). MatchAs C (MatchBelow C d) s B f₂ g'₂ (move g₂ k₂ u₂ (node x ps)) (move g₂ k₂ v₂ (node y qs))) (sym (sort_at-move g₂ k₂ u₂ x))
              (MatchAs-carry d (MatchBelow-carry d) (sort_at x) A B h f₁ g'₁ f₂ g'₂ u₁ u₂ v₁ v₂ x y ps qs refl (sym same_sort) m n m' n' p q
              (subst (λ (s : Sort). MatchAs C (MatchBelow C d) s A f₁ g'₁ (move g₁ k₁ u₁ (node x ps)) (move g₁ k₁ v₁ (node y qs))) (sort_at-move g₁ k₁ u₁ x) w.1)),
        )

-- ## Replacing and renaming are moves
pub rename_head-move : (f g : Name → Name) (x : Head Name Name) → rename_head f g x ≡ move_head g f f x
rename_head-move f g nothing = refl
rename_head-move f g (primitive p) = refl
rename_head-move f g (resource q s) = refl
rename_head-move f g (defined i k) = refl
rename_head-move f g (func i b) = refl
rename_head-move f g (instance i own) = refl
rename_head-move f g (component i ins outs) = refl
rename_head-move f g type_entity = refl
rename_head-move f g (core_module i w) = refl
rename_head-move f g (core_instance i w) = refl
rename_head-move f g (core_type i) = refl
rename_head-move f g (core_item i) = refl

moved-same : (k : Name → Name) (x : Head Name Name) (r : Name) → moved k x k r ≡ k r
moved-same k x r = go (owns x r)
  where
    go : (b : Bool) → cond b (k r) (k r) ≡ k r
    go true = refl
    go false = refl

mutual
  pub rename-move : (f g : Name → Name) (t : Type_tree) → rename f g t ≡ move g f f t
  rename-move f g (node x ps) =
      let e : rename_head f g x ≡ move_head g f f x = rename_head-move f g x in
      let e' : rename_parts f g ps ≡ move_parts g f f ps = rename_parts-move f g ps in
      let e'' : move_parts g f f ps ≡ move_parts g f (moved f x f) ps = ap (λ (u : Name → Name). move_parts g f u ps) (sym (fun_ext (moved-same f x))) in
      cc

  pub rename_parts-move : (f g : Name → Name) (ps : Parts Name Name) → rename_parts f g ps ≡ move_parts g f f ps
  rename_parts-move f g none = refl
  rename_parts-move f g (part l t ps) =
      let e : rename f g t ≡ move g f f t = rename-move f g t in
      let e' : rename_parts f g ps ≡ move_parts g f f ps = rename_parts-move f g ps in
      cc
