-- The resources that an instance of an instance type introduces, and the others that are free in it.
use Rattle.std.proofs.Common.{◌≡◌, List, [], ◌∷◌, map, refl, sym, ◌∙◌, ap, subst, Bool, true, false, ◌||◌, ◌&&◌, not, cond, Some, None}
use Rattle.std.specs.Prelude.{Option}
use Rattle.std.proofs.lemmas.Bool.{false≢true}
use Rattle.wcv_core.specs.Names.{Name, Place, at, same_place, same, member}
use Rattle.wcv_core.proofs.Names.{same_place-refl, same-true}
use Rattle.wcv_types.specs.Identity.{Identity}
use Rattle.wcv_types.specs.Replacing.{Replacement, given_or, or_same, new_resource, moves, changed_in, new_head, replaced, replaced_in}
use Rattle.wcv_types.specs.Resources.{owns, refers, is_free, is_free_in}
use Rattle.wcv_types.specs.Tree.{Head, resource, instance, node, Parts, none, part, firsts, exports, owned}
use Rattle.wcv_types.specs.Unfold.{Type_tree}
use Rattle.wcv_types.specs.FirstPath.{first_path}
use Rattle.wcv_types.proofs.Replacing.{none-given}
use Rattle.wcv_lower.specs.Names.{names_by_place}
use Rattle.wcv_lower.specs.NewTypes.{owned_anew, instance_tree, path_or_none, instance_resources}
use Rattle.wcv_lower.specs.Trees.{Entries}

-- ## What is free where resources are replaced

-- a resource is free as before where references to it stay and no other reference becomes one
module _ (m : Replacement) (plain : (i : Identity) → m.nodes i ≡ None) (r : Name) (stays : (q : Name) → same r (new_resource m q) ≡ same r q) where
  head_free : (b c : Bool) (h : Head Name Name) → (refers r (new_head m b h) || (not (owns (new_head m b h) r) && c)) ≡ (refers r h || (not (owns h r) && c))
  head_free b c (resource q s) = ap (λ (x : Bool). x || c) (stays q)
  head_free true c h = refl
  head_free false c h = refl

  mutual
    free_replaced : (t : Type_tree) → is_free r (replaced m t) ≡ is_free r t
    free_replaced (node h ps) =
        let b : Bool = moves m h || changed_in m ps in
        ap (λ (o : Option Type_tree). is_free r (given_or o (node (new_head m b h) (replaced_in m ps)))) (none-given m plain h)
        ∙ head_free b (is_free_in r (replaced_in m ps)) h
        ∙ ap (λ (c : Bool). refers r h || (not (owns h r) && c)) (free_in_replaced ps)

    free_in_replaced : (ps : Parts Name Name) → is_free_in r (replaced_in m ps) ≡ is_free_in r ps
    free_in_replaced none = refl
    free_in_replaced (part k t ps) = λ j. free_replaced t j || free_in_replaced ps j

-- ## What an instance introduces

firsts_of : (p : Place) (es : Entries) (own : List Name) → firsts (map (λ r. (at p r, path_or_none (first_path r es))) own) ≡ map (at p) own
firsts_of p es [] = refl
firsts_of p es (x ∷ xs) = ap (λ (ys : List Name). at p x ∷ ys) (firsts_of p es xs)

pub introduced_are : (p : Place) (t : Type_tree) → firsts (instance_resources names_by_place p t) ≡ map (at p) (owned t)
introduced_are p t = firsts_of p (exports t) (owned t)

member_made : (p : Place) (x : Name) (xs : List Name) → member (at p x) (map (at p) xs) ≡ member x xs
member_made p x [] = refl
member_made p x (y ∷ ys) = λ j. (same_place-refl p j && same x y) || member_made p x ys j

elsewhere : (p q : Place) (x : Name) (ys : List Name) → same_place p q ≡ false → member (at p x) (map (at q) ys) ≡ false
elsewhere p q x [] e = refl
elsewhere p q x (y ∷ ys) e = λ j. (e j && same x y) || elsewhere p q x ys e j

apart_made : (p q : Place) (xs ys : List Name) (r : Name) → same_place p q ≡ false → member r (map (at p) xs) ≡ true → member r (map (at q) ys) ≡ false
apart_made p q [] ys r e h = absurd (false≢true h)
apart_made p q (x ∷ xs) ys r e h = go (same r (at p x)) refl (λ k. apart_made p q xs ys r e k) h
  where
    go : (b : Bool) → same r (at p x) ≡ b → (member r (map (at p) xs) ≡ true → member r (map (at q) ys) ≡ false) → (b || member r (map (at p) xs)) ≡ true → member r (map (at q) ys) ≡ false
    go true w rest k = subst (λ (n : Name). member n (map (at q) ys) ≡ false) (sym (same-true r (at p x) w)) (elsewhere p q x ys e)
    go false w rest k = rest k

pub introduced_apart : (p q : Place) (t u : Type_tree) (r : Name) → same_place p q ≡ false → member r (firsts (instance_resources names_by_place p t)) ≡ true → member r (firsts (instance_resources names_by_place q u)) ≡ false
introduced_apart p q t u r e h =
    ap (member r) (introduced_are q u) ∙ apart_made p q (owned t) (owned u) r e (sym (ap (member r) (introduced_are p t)) ∙ h)

-- ## What it shares

-- what stands in the list is no name that does not
not_same : (r x : Name) (xs : List Name) → member r xs ≡ false → member x xs ≡ true → same r x ≡ false
not_same r x xs e h = go (same r x) refl
  where
    go : (b : Bool) → same r x ≡ b → b ≡ false
    go true w = sym h ∙ ap (λ (n : Name). member n xs) (sym (same-true r x w)) ∙ e
    go false w = refl

reference_stays : (p : Place) (own : List Name) (r : Name) → member r own ≡ false → member r (map (at p) own) ≡ false → (q : Name) → same r (new_resource (owned_anew names_by_place p own) q) ≡ same r q
reference_stays p own r e f q = go (member q own) refl
  where
    go : (b : Bool) → member q own ≡ b → same r (or_same q (cond b (Some (at p q)) None)) ≡ same r q
    go true w = not_same r (at p q) (map (at p) own) f (member_made p q own ∙ w) ∙ sym (not_same r q own e w)
    go false w = refl

pub shared_free : (p : Place) (t : Type_tree) (r : Name) → member r (owned t) ≡ false → member r (firsts (instance_resources names_by_place p t)) ≡ false → is_free r (instance_tree names_by_place p t) ≡ is_free r t
shared_free p (node (instance i own) ps) r e f =
    let g : member r (map (at p) own) ≡ false = sym (ap (member r) (introduced_are p (node (instance i own) ps))) ∙ f in
    free_replaced (owned_anew names_by_place p own) (λ j. refl) r (reference_stays p own r e g) (node (instance i []) ps) ∙ ap (λ (b : Bool). not b && is_free_in r ps) (sym e)
shared_free p (node h ps) r e f = refl
