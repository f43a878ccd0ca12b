-- A resource that is free in a type shows: the test whether any is free finds it.
use Rattle.std.proofs.Common.{◌≡◌, List, ◌++◌, sym, ◌∙◌, ap, true, false, not, ◌||◌, ◌⊎◌, inl, inr}
use Rattle.std.proofs.lemmas.Bool.{false≢true}
use Rattle.wcv_core.specs.Names.{Name, member}
use Rattle.wcv_types.specs.Resources.{owns, owned_by, RefersTo, Free, FreeIn}
use Rattle.wcv_types.specs.Tree.{Head, resource, instance, component, node, Parts, none, part, firsts}
use Rattle.wcv_types.specs.Unfold.{Type_tree}
use Rattle.wcv_lower.specs.Trees.{refers_outside, has_free, any_free}
use Rattle.wcv_lower.proofs.Given.{or_left, or_right, not_so}
use Rattle.wcv_lower.proofs.Members.{member_cases}

owned-owns : (h : Head Name Name) (r : Name) → member r (owned_by h) ≡ true → owns h r ≡ true
owned-owns (instance i own) r e = e
owned-owns (component i ins outs) r e = go (member_cases r (firsts ins) (firsts outs) e)
  where
    go : (member r (firsts ins) ≡ true) ⊎ (member r (firsts outs) ≡ true) → (member r (firsts ins) || member r (firsts outs)) ≡ true
    go (inl w) = or_left (member r (firsts ins)) (member r (firsts outs)) w
    go (inr w) = or_right (member r (firsts ins)) (member r (firsts outs)) w
owned-owns _ r e = absurd (false≢true e)

reference-shows : (h : Head Name Name) (own : List Name) (r : Name) → RefersTo r h → member r own ≡ false → refers_outside own h ≡ true
reference-shows (resource q s) own r e f = ap not (ap (λ (x : Name). member x own) (sym e) ∙ f)
reference-shows _ own r e f = absurd e

unlisted : (h : Head Name Name) (own : List Name) (r : Name) → owns h r ≡ false → member r own ≡ false → member r (owned_by h ++ own) ≡ false
unlisted h own r e f = not_so (member r (owned_by h ++ own)) (λ q. go (member_cases r (owned_by h) own q))
  where
    go : (member r (owned_by h) ≡ true) ⊎ (member r own ≡ true) → ⊥
    go (inl w) = false≢true (sym e ∙ owned-owns h r w)
    go (inr w) = false≢true (sym f ∙ w)

mutual
  -- a resource that is free, and that is not in the list
  pub free-shows : (own : List Name) (t : Type_tree) (r : Name) → Free r t → member r own ≡ false → has_free own t ≡ true
  free-shows own (node h ps) r (inl e) f = or_left (refers_outside own h) (any_free (owned_by h ++ own) ps) (reference-shows h own r e f)
  free-shows own (node h ps) r (inr e) f = or_right (refers_outside own h) (any_free (owned_by h ++ own) ps) (free-shows_in (owned_by h ++ own) ps r e.1 (unlisted h own r e.0 f))

  free-shows_in : (own : List Name) (ps : Parts Name Name) (r : Name) → FreeIn r ps → member r own ≡ false → any_free own ps ≡ true
  free-shows_in own none r e f = absurd e
  free-shows_in own (part k t ps) r (inl e) f = or_left (has_free own t) (any_free own ps) (free-shows own t r e f)
  free-shows_in own (part k t ps) r (inr e) f = or_right (has_free own t) (any_free own ps) (free-shows_in own ps r e f)
