-- What an item does to a context: it lists new resources that are given at its place, and brings sound entries in which each free
-- resource is listed near by.
use Rattle.std.proofs.Common.{◌≡◌, ℕ, List, [], ◌∷◌, ◌++◌, Bool, true, false, ◌&&◌, refl, sym, ◌∙◌, subst, append-nil, ◌⊎◌, inl, inr}
use Rattle.std.specs.Prelude.{All, Option, Some, None, cond}
use Rattle.std.proofs.lemmas.Bool.{false≢true}
use Rattle.wcv_core.specs.Names.{Name, Place, base}
use Rattle.wcv_core.specs.declared.core_types.ValType.{ValType}
use Rattle.wcv_syntax.specs.Model.{Type_form, defined_type, func_type, component_type, instance_type, resource_type}
use Rattle.wcv_types.specs.Led.{HasPath}
use Rattle.wcv_types.specs.Paths.{PathLeadsTo}
use Rattle.wcv_types.proofs.Lists.{some-inj}
use Rattle.wcv_lower.specs.Context.{in_types, Side, importing, exporting, is_concrete}
use Rattle.wcv_lower.specs.Even.{IsBalanced}
use Rattle.wcv_lower.specs.Names.{names_by_place}
use Rattle.wcv_lower.specs.NewTypes.{new_reference}
use Rattle.wcv_lower.specs.Owned.{OwnsNot, OwnApart, Everywhere, AreBalanced, IsLed}
use Rattle.wcv_lower.specs.Readers.{New_node}
use Rattle.wcv_lower.specs.Step.{appends, defines, Step, apply, joins_types}
use Rattle.wcv_lower.specs.Trees.{Tree_context, Tree_stack, Entries, tree_reader, type_entry, node_tree, tree_maker}
use Rattle.wcv_lower.specs.Types.{type_made, added, dtor_stands, type_step}
use Rattle.wcv_lower.proofs.Applied.{applied_has}
use Rattle.wcv_lower.proofs.Bringing.{AllBring, brings_one, brings_more}
use Rattle.wcv_growth.proofs.Charged.{AllCharged, all_back, apply-charges, among-listed}
use Rattle.wcv_growth.proofs.Having.{Has, Once, has-right, has-both}
use Rattle.wcv_growth.proofs.Known.{mapped-some, Fine, Listed, Any, apply-kind}
use Rattle.wcv_growth.proofs.Looking.{entry-fine, reference-fine, node-fine}
use Rattle.wcv_growth.proofs.Near.{Near, AreSorted, IsFine, After, grown-fine}
use Rattle.wcv_growth.proofs.Placed.{PlacedAt, PlacedUnder, placed_here}

-- the paths of the imported resources lead to them
abbrev pub Leads : Tree_context → Type 0
Leads c = All (λ p. PathLeadsTo p.1 p.0 (c.side importing)) c.imported

-- what holds of a stack where an item stands at place p
pub record Ready (p : Place) (s : Tree_stack) : Type 0 where
  pub fine : IsFine s
  pub leads : Leads s.top
  pub led : is_concrete s.top.kind ≡ false → IsLed s.top
  -- what is given there or inside is listed nowhere, and no type owns it
  pub unlisted : (r : Name) → PlacedUnder p r → Listed s r → ⊥
  pub fresh : (r : Name) → PlacedUnder p r → Everywhere (OwnsNot r) s
  -- types own apart, and none owns what is listed; owners of one resource are of one height
  pub apart : Everywhere OwnApart s
  pub spared : (r : Name) → Listed s r → Everywhere (OwnsNot r) s
  pub balanced : AreBalanced s

-- each is given at the place, and none twice
pub record AreNew {X : Type 0} (p : Place) (rs : List (Name × X)) : Type 0 where
  pub placed : (r : Name) → Has rs r → PlacedAt p r
  pub once : Once rs

-- the second context has the resources of the first, and new ones that it imports
pub record Imports (p : Place) (c d : Tree_context) : Type 0 where
  pub more : List (Name × List ℕ)
  pub new : AreNew p more
  pub imported : d.imported ≡ c.imported ++ more
  pub defined : d.defined ≡ c.defined

-- or that it defines
pub record Defines (p : Place) (c d : Tree_context) : Type 0 where
  pub more : List (Name × Option ValType)
  pub new : AreNew p more
  pub imported : d.imported ≡ c.imported
  pub defined : d.defined ≡ c.defined ++ more

abbrev pub Adds : Side → Place → Tree_context → Tree_context → Type 0
Adds importing p c d = Imports p c d
Adds exporting p c d = Defines p c d

-- what an item at place p does to a stack
pub record Grows (e : Side) (p : Place) (s t : Tree_stack) : Type 0 where
  pub kind : t.top.kind ≡ s.top.kind
  pub outer : AllCharged s.outer t.outer
  pub fine : IsFine t
  pub leads : Leads t.top
  pub led : is_concrete t.top.kind ≡ false → IsLed t.top
  pub adds : Adds e p s.top t.top
  pub late : (r : Name) → (PlacedUnder p r → ⊥) → Everywhere (OwnsNot r) s → Everywhere (OwnsNot r) t
  pub apart : Everywhere OwnApart t
  pub spared : (r : Name) → Listed t r → Everywhere (OwnsNot r) t
  pub balanced : AreBalanced t

-- what a step does, beside what its entries own
pub record Does (e : Side) (p : Place) (s : Tree_stack) (x : Step tree_reader) : Type 0 where
  pub brings : AllBring (Fine (After x s)) Any x
  pub leads : Leads (apply x s).top
  pub led : is_concrete s.top.kind ≡ false → IsLed (apply x s).top
  pub adds : Adds e p s.top (apply x s).top

-- what is listed behind an item was listed, or is given there
listed-before : (e : Side) (p : Place) (s t : Tree_stack) → AllCharged s.outer t.outer → Adds e p s.top t.top → (r : Name) → Listed t r → Listed s r ⊎ PlacedAt p r
listed-before importing p s t c a r (inl (inl h)) = go (has-both s.top.imported a.more r (subst (λ rs. Has rs r) a.imported h))
  where
    go : Has s.top.imported r ⊎ Has a.more r → Listed s r ⊎ PlacedAt p r
    go (inl x) = inl (inl (inl x))
    go (inr x) = inr (a.new.placed r x)
listed-before importing p s t c a r (inl (inr h)) = inl (inl (inr (subst (λ rs. Has rs r) a.defined h)))
listed-before importing p s t c a r (inr h) = inl (inr (among-listed t.outer s.outer (all_back s.outer t.outer c) r h))
listed-before exporting p s t c a r (inl (inl h)) = inl (inl (inl (subst (λ rs. Has rs r) a.imported h)))
listed-before exporting p s t c a r (inl (inr h)) = go (has-both s.top.defined a.more r (subst (λ rs. Has rs r) a.defined h))
  where
    go : Has s.top.defined r ⊎ Has a.more r → Listed s r ⊎ PlacedAt p r
    go (inl x) = inl (inl (inr x))
    go (inr x) = inr (a.new.placed r x)
listed-before exporting p s t c a r (inr h) = inl (inr (among-listed t.outer s.outer (all_back s.outer t.outer c) r h))

-- ## What the entries of a step own

pub record Owns (p : Place) (s : Tree_stack) (x : Step tree_reader) : Type 0 where
  -- nothing but what is given at the place or inside it
  pub late : (r : Name) → (PlacedUnder p r → ⊥) → Everywhere (OwnsNot r) s → AllBring (OwnsNot r) Any x
  pub spared : (r : Name) → Listed s r ⊎ PlacedAt p r → AllBring (OwnsNot r) Any x
  pub apart : AllBring OwnApart Any x
  pub balanced : (v : Name → ℕ) × Everywhere (IsBalanced v) s × AllBring (IsBalanced v) Any x

module _ (p : Place) (s : Tree_stack) (x : Step tree_reader) (h : Ready p s) where
  pub unowned : (r : Name) → Listed s r ⊎ PlacedAt p r → Everywhere (OwnsNot r) s
  unowned r (inl l) = h.spared r l
  unowned r (inr q) = h.fresh r (placed_here p r q)

  -- where they own nothing that no type owns
  pub own-nothing : ((r : Name) → Everywhere (OwnsNot r) s → AllBring (OwnsNot r) Any x) → AllBring OwnApart Any x → ((v : Name → ℕ) → Everywhere (IsBalanced v) s → AllBring (IsBalanced v) Any x) → Owns p s x
  own-nothing owns apart balanced = record {
    late = λ r n all. owns r all;
    spared = λ r l. owns r (unowned r l);
    apart = apart;
    balanced = (h.balanced.0, h.balanced.1, balanced h.balanced.0 h.balanced.1);
  }

  pub does-grow : (e : Side) → Owns p s x → AreSorted (apply x s).top → Does e p s x → Grows e p s (apply x s)
  does-grow e o i w = record {
    kind = apply-kind x s;
    outer = apply-charges x s;
    fine = grown-fine x s w.brings i h.fine;
    leads = w.leads;
    led = λ k. w.led (sym (λ j. is_concrete (apply-kind x s j)) ∙ k);
    adds = w.adds;
    late = λ r n all. applied_has (OwnsNot r) Any x s all (o.late r n all);
    apart = applied_has OwnApart Any x s h.apart o.apart;
    spared = λ r l.
        let b : Listed s r ⊎ PlacedAt p r = listed-before e p s (apply x s) (apply-charges x s) w.adds r l in
        applied_has (OwnsNot r) Any x s (unowned r b) (o.spared r b);
    balanced = (o.balanced.0, applied_has (IsBalanced o.balanced.0) Any x s o.balanced.1 o.balanced.2);
  }

-- ## Steps that leave the lists

-- both sides' lists are the same
pub record SameLists (c d : Tree_context) : Type 0 where
  pub imported : d.imported ≡ c.imported
  pub defined : d.defined ≡ c.defined
  pub imports : d.side importing ≡ c.side importing
  pub exports : d.side exporting ≡ c.side exporting

pub same-leads : (c d : Tree_context) → SameLists c d → Leads c → Leads d
same-leads c d same h =
    subst (λ (es : Entries). All (λ p. PathLeadsTo p.1 p.0 es) d.imported) (sym same.imports) (subst (All (λ p. PathLeadsTo p.1 p.0 (c.side importing))) (sym same.imported) h)

pub same-led : (c d : Tree_context) → SameLists c d → IsLed c → IsLed d
same-led c d same h =
    subst (λ (es : Entries). All (λ x. HasPath es x.0) d.defined) (sym same.exports) (subst (All (λ x. HasPath (c.side exporting) x.0)) (sym same.defined) h)

pub nothing-new : {X : Type 0} (p : Place) → AreNew {X = X} p []
nothing-new p = record { placed = λ r h. absurd h; once = tt }

adds-none : (p : Place) (c d : Tree_context) → SameLists c d → Adds exporting p c d
adds-none p c d same = record { more = []; new = nothing-new p; imported = same.imported; defined = same.defined ∙ sym (append-nil c.defined) }

module _ (p : Place) (s : Tree_stack) (h : Ready p s) where
  pub same-does : (x : Step tree_reader) → AllBring (Fine (After x s)) Any x → SameLists s.top (apply x s).top → Does exporting p s x
  same-does x w same = record {
    brings = w;
    leads = same-leads s.top (apply x s).top same h.leads;
    led = λ k. same-led s.top (apply x s).top same (h.led k);
    adds = adds-none p s.top (apply x s).top same;
  }

  -- ## Type items

  -- a node joins the types
  pub node-does : (n : New_node tree_reader) → Fine (Near s) (node_tree (base p) n) → Does exporting p s (added (tree_maker names_by_place p) n)
  node-does n w =
      same-does (added (tree_maker names_by_place p) n) (brings_one (Fine (Near s)) Any (appends in_types (type_entry (node_tree (base p) n))) (entry-fine (Near s) (node_tree (base p) n) w))
      (record { imported = refl; defined = refl; imports = refl; exports = refl })

  -- a resource that is defined
  abbrev resource_step : ValType → Step tree_reader
  resource_step v = defines (base p) (Some v) ∷ joins_types (type_entry (new_reference names_by_place p))

  resource-does : (v : ValType) → is_concrete s.top.kind ≡ true → Does exporting p s (resource_step v)
  resource-does v k = record {
    brings = brings_more (Fine (After (resource_step v) s)) Any (defines (base p) (Some v)) (joins_types (type_entry (new_reference names_by_place p))) tt
        (brings_one (Fine (After (resource_step v) s)) Any (appends in_types (type_entry (new_reference names_by_place p)))
        (reference-fine (After (resource_step v) s) p (inl (inr (has-right s.top.defined ((base p, Some v) ∷ []) (base p) (inl refl))))));
    leads = h.leads;
    led = λ n. absurd (false≢true (sym n ∙ k));
    adds = record {
      more = (base p, Some v) ∷ [];
      new = record { placed = λ r w. here r w; once = (λ w. w, tt) };
      imported = refl;
      defined = refl;
    };
  }
    where
      here : (r : Name) → Has ((base p, Some v) ∷ []) r → PlacedAt p r
      here r (inl e) = inl e
      here r (inr e) = absurd e

  pub type-does : (t : Type_form) (x : Step tree_reader) → type_step (tree_maker names_by_place p) s.top t ≡ Some x → Does exporting p s x
  type-does (defined_type d) x e =
      let m = mapped-some (added (tree_maker names_by_place p)) (type_made s.top (defined_type d)) x e in
      subst (Does exporting p s) m.2 (node-does m.0 (node-fine (Near s) s.top h.fine.0.entries (base p) (defined_type d) m.0 m.1))
  type-does (func_type f) x e =
      let m = mapped-some (added (tree_maker names_by_place p)) (type_made s.top (func_type f)) x e in
      subst (Does exporting p s) m.2 (node-does m.0 (node-fine (Near s) s.top h.fine.0.entries (base p) (func_type f) m.0 m.1))
  type-does (component_type ds) x e = cc
  type-does (instance_type ds) x e = cc
  type-does (resource_type rep dtor) x e = go (is_concrete s.top.kind) (dtor_stands s.top dtor) refl e
    where
      go : (b d : Bool) → is_concrete s.top.kind ≡ b → cond (b && d) (Some (resource_step rep)) None ≡ Some x → Does exporting p s x
      go true true k w = subst (Does exporting p s) (some-inj w) (resource-does rep k)
      go true false k w = cc
      go false d k w = cc
