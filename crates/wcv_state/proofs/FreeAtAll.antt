-- Whether any resource is free in a type.
use Rattle.std.proofs.Common.{◌≡◌, List, length, [], ◌∷◌, ◌++◌, refl, sym, ◌∙◌, ap, true, false, not, ◌||◌, ◌⊎◌, inl, inr, ⊎_elim, arith}
use Rattle.std.specs.Prelude.{nat_lt}
use Rattle.std.proofs.lemmas.Bool.{false≢true, or_cases}
use Rattle.std.proofs.lemmas.Bool.Decides.{nat_tests}
use Rattle.wcv_core.specs.Names.{Name, number, same, member}
use Rattle.wcv_core.proofs.Names.{same-refl}
use Rattle.wcv_types.specs.Gathering.{Gains}
use Rattle.wcv_types.specs.Resources.{owns, owned_by, RefersTo, Free, FreeIn}
use Rattle.wcv_types.specs.Sets.{resource_names}
use Rattle.wcv_types.specs.Tree.{Head, Role, nothing, primitive, resource, defined, func, instance, component, type_entity, core_module, core_instance, core_type, core_item, node, Parts, none, part, firsts}
use Rattle.wcv_types.specs.Unfold.{Type_tree}
use Rattle.wcv_types.specs.declared.ids.ResourceId.{ResourceId}
use Rattle.wcv_lower.specs.Trees.{refers_outside, has_free, any_free}
use Rattle.wcv_lower.proofs.Given.{or_left, or_right, not_so}
use Rattle.wcv_lower.proofs.Members.{member_cases, member_left, member_right}

-- what a node owns is in the list of that
owned_in : (h : Head Name Name) (r : Name) → member r (owned_by h) ≡ true → owns h r ≡ true
owned_in (instance i own) r e = e
owned_in (component i ins outs) r e = go (member_cases r (firsts ins) (firsts outs) e)
  where
    go : (member r (firsts ins) ≡ true) ⊎ (member r (firsts outs) ≡ true) → (member r (firsts ins) || member r (firsts outs)) ≡ true
    go (inl w) = or_left (member r (firsts ins)) (member r (firsts outs)) w
    go (inr w) = or_right (member r (firsts ins)) (member r (firsts outs)) w
owned_in nothing r e = absurd (false≢true e)
owned_in (primitive q) r e = absurd (false≢true e)
owned_in (resource q s) r e = absurd (false≢true e)
owned_in (defined i k) r e = absurd (false≢true e)
owned_in (func i b) r e = absurd (false≢true e)
owned_in type_entity r e = absurd (false≢true e)
owned_in (core_module i n) r e = absurd (false≢true e)
owned_in (core_instance i n) r e = absurd (false≢true e)
owned_in (core_type i) r e = absurd (false≢true e)
owned_in (core_item x) r e = absurd (false≢true e)

in_owned : (h : Head Name Name) (r : Name) → owns h r ≡ true → member r (owned_by h) ≡ true
in_owned (instance i own) r e = e
in_owned (component i ins outs) r e = go (or_cases (member r (firsts ins)) (member r (firsts outs)) e)
  where
    go : (member r (firsts ins) ≡ true) ⊎ (member r (firsts outs) ≡ true) → member r (firsts ins ++ firsts outs) ≡ true
    go (inl w) = member_left r (firsts ins) (firsts outs) w
    go (inr w) = member_right r (firsts ins) (firsts outs) w
in_owned nothing r e = absurd (false≢true e)
in_owned (primitive q) r e = absurd (false≢true e)
in_owned (resource q s) r e = absurd (false≢true e)
in_owned (defined i k) r e = absurd (false≢true e)
in_owned (func i b) r e = absurd (false≢true e)
in_owned type_entity r e = absurd (false≢true e)
in_owned (core_module i n) r e = absurd (false≢true e)
in_owned (core_instance i n) r e = absurd (false≢true e)
in_owned (core_type i) r e = absurd (false≢true e)
in_owned (core_item x) r e = absurd (false≢true e)

-- in neither list
outside : (h : Head Name Name) (own : List Name) (r : Name) → owns h r ≡ false → member r own ≡ false → member r (owned_by h ++ own) ≡ false
outside h own r e f = not_so (member r (owned_by h ++ own)) (λ q. go (member_cases r (owned_by h) own q))
  where
    go : (member r (owned_by h) ≡ true) ⊎ (member r own ≡ true) → ⊥
    go (inl w) = false≢true (sym e ∙ owned_in h r w)
    go (inr w) = false≢true (sym f ∙ w)

reference_shows : (h : Head Name Name) (own : List Name) (r : Name) → RefersTo r h → member r own ≡ false → refers_outside own h ≡ true
reference_shows (resource q s) own r e f = ap not (ap (λ (x : Name). member x own) (sym e) ∙ f)
reference_shows nothing own r e f = absurd e
reference_shows (primitive q) own r e f = absurd e
reference_shows (defined i k) own r e f = absurd e
reference_shows (func i b) own r e f = absurd e
reference_shows (instance i o) own r e f = absurd e
reference_shows (component i ins outs) own r e f = absurd e
reference_shows type_entity own r e f = absurd e
reference_shows (core_module i n) own r e f = absurd e
reference_shows (core_instance i n) own r e f = absurd e
reference_shows (core_type i) own r e f = absurd e
reference_shows (core_item x) own r e f = absurd e

mutual
  -- one that is free, and that is not in the list, shows
  pub free_shows : (own : List Name) (t : Type_tree) (r : Name) → Free r t → member r own ≡ false → has_free own t ≡ true
  free_shows own (node h ps) r (inl e) f = or_left (refers_outside own h) (any_free (owned_by h ++ own) ps) (reference_shows h own r e f)
  free_shows own (node h ps) r (inr e) f = or_right (refers_outside own h) (any_free (owned_by h ++ own) ps) (free_shows_in (owned_by h ++ own) ps r e.1 (outside h own r e.0 f))

  free_shows_in : (own : List Name) (ps : Parts Name Name) (r : Name) → FreeIn r ps → member r own ≡ false → any_free own ps ≡ true
  free_shows_in own none r e f = absurd e
  free_shows_in own (part k t ps) r (inl e) f = or_left (has_free own t) (any_free own ps) (free_shows own t r e f)
  free_shows_in own (part k t ps) r (inr e) f = or_right (has_free own t) (any_free own ps) (free_shows_in own ps r e f)

-- a resource that is free and not in the list
abbrev FreeOutside : List Name → Type_tree → Type 0
FreeOutside own t = (r : Name) × Free r t × (member r own ≡ false)

abbrev FreeOutsideIn : List Name → Parts Name Name → Type 0
FreeOutsideIn own ps = (r : Name) × FreeIn r ps × (member r own ≡ false)

module _ (own : List Name) where
  reference_found : (h : Head Name Name) (ps : Parts Name Name) → refers_outside own h ≡ true → FreeOutside own (node h ps)
  reference_found (resource q s) ps e = (q, inl refl, not_so (member q own) (λ f. false≢true (sym (ap not f) ∙ e)))
  reference_found nothing ps e = absurd (false≢true e)
  reference_found (primitive q) ps e = absurd (false≢true e)
  reference_found (defined i k) ps e = absurd (false≢true e)
  reference_found (func i b) ps e = absurd (false≢true e)
  reference_found (instance i o) ps e = absurd (false≢true e)
  reference_found (component i ins outs) ps e = absurd (false≢true e)
  reference_found type_entity ps e = absurd (false≢true e)
  reference_found (core_module i n) ps e = absurd (false≢true e)
  reference_found (core_instance i n) ps e = absurd (false≢true e)
  reference_found (core_type i) ps e = absurd (false≢true e)
  reference_found (core_item x) ps e = absurd (false≢true e)

  owner_found : (h : Head Name Name) (ps : Parts Name Name) → FreeOutsideIn (owned_by h ++ own) ps → FreeOutside own (node h ps)
  owner_found h ps w = (
    w.0,
    inr (not_so (owns h w.0) (λ e. false≢true (sym w.2 ∙ member_left w.0 (owned_by h) own (in_owned h w.0 e))), w.1),
    not_so (member w.0 own) (λ e. false≢true (sym w.2 ∙ member_right w.0 (owned_by h) own e)),
  )

found_here : (own : List Name) (k : Role) (t : Type_tree) (ps : Parts Name Name) → FreeOutside own t → FreeOutsideIn own (part k t ps)
found_here own k t ps w = (w.0, inl w.1, w.2)

found_later : (own : List Name) (k : Role) (t : Type_tree) (ps : Parts Name Name) → FreeOutsideIn own ps → FreeOutsideIn own (part k t ps)
found_later own k t ps w = (w.0, inr w.1, w.2)

mutual
  -- and one that shows is there
  pub free_found : (own : List Name) (t : Type_tree) → has_free own t ≡ true → FreeOutside own t
  free_found own (node h ps) e =
      ⊎_elim (λ w. reference_found own h ps w) (λ w. owner_found own h ps (free_found_in (owned_by h ++ own) ps w)) (or_cases (refers_outside own h) (any_free (owned_by h ++ own) ps) e)

  free_found_in : (own : List Name) (ps : Parts Name Name) → any_free own ps ≡ true → FreeOutsideIn own ps
  free_found_in own none e = absurd (false≢true e)
  free_found_in own (part k t ps) e = ⊎_elim (λ w. found_here own k t ps (free_found own t w)) (λ w. found_later own k t ps (free_found_in own ps w)) (or_cases (has_free own t) (any_free own ps) e)

-- a set of what is free has some exactly where something is
pub some_free : (t : Type_tree) (x : ResourceId) (xs : List ResourceId) → Gains (λ r. Free r t) [] (x ∷ xs) → has_free [] t ≡ true
some_free t x xs g = go (g.only (number x.index) (or_left (same (number x.index) (number x.index)) (member (number x.index) (resource_names xs)) (same-refl (number x.index))))
  where
    go : (member (number x.index) (resource_names []) ≡ true) ⊎ Free (number x.index) t → has_free [] t ≡ true
    go (inl e) = absurd (false≢true e)
    go (inr w) = free_shows [] t (number x.index) w refl

pub none_free : (t : Type_tree) → Gains (λ r. Free r t) [] [] → has_free [] t ≡ false
none_free t g = not_so (has_free [] t) (λ e. let w = free_found [] t e in false≢true (g.all w.0 w.1))

-- so as the length of the set tells
pub free_told : (t : Type_tree) (xs : List ResourceId) → Gains (λ r. Free r t) [] xs → nat_lt 0 (length xs) ≡ has_free [] t
free_told t [] g = sym (none_free t g)
free_told t (x ∷ xs) g = let e : nat_lt 0 (length (x ∷ xs)) ≡ true = grind (arith, nat_tests) in e ∙ sym (some_free t x xs g)
