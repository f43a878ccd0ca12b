-- What is tidy under other names is tidy under those before, and what is free in its entries is listed there.
use Rattle.std.proofs.Common.{◌≡◌, ℕ, List, [], ◌∷◌, ◌||◌, map, bytes_eq, refl, sym, ◌∙◌, ap, subst, Some, inl, inr}
use Rattle.std.specs.List.{IsDistinct}
use Rattle.std.specs.Map.{keys_of}
use Rattle.std.specs.Option.{option_map}
use Rattle.wcv_core.specs.Names.{Name, member}
use Rattle.wcv_types.specs.Identity.{rename_identity}
use Rattle.wcv_types.specs.Rename.{rename_head, rename, rename_parts, rename_paths}
use Rattle.wcv_types.specs.Resources.{Free, owns}
use Rattle.wcv_types.specs.Tree.{Text, Extern_name, Head, here, label, import, export, core_import, core_export, nothing, resource, func, instance, component, type_entity, core_module, core_item, node, Parts, none, part, owned_at, owned, firsts}
use Rattle.wcv_types.specs.Unfold.{Type_tree}
use Rattle.wcv_types.proofs.All.{all-mapped_back}
use Rattle.wcv_types.proofs.Commute.{owns-renamed}
use Rattle.wcv_types.proofs.FreeRenamed.{free-renamed}
use Rattle.wcv_types.proofs.Identity.{same_under, identity-same}
use Rattle.wcv_types.proofs.Renaming.{each-always}
use Rattle.wcv_types.proofs.UpToRenaming.{back_again}
use Rattle.wcv_matching.specs.Formed.{ExportsAlone, SidesAlone, IsItem, ItemsAlone, IsFormed}
use Rattle.wcv_matching.specs.Matching.{named_exports_in, named_imports_in}
use Rattle.wcv_matching.specs.Orderly.{EachNodeIn, AreNamedApart}
use Rattle.wcv_lower.specs.Even.{IsLevel}
use Rattle.wcv_lower.specs.Mapped.{map_context}
use Rattle.wcv_lower.specs.Owned.{AllEntries, OwnApart, OwnApartIn, OwnsNot, OwnsNotIn}
use Rattle.wcv_lower.specs.Renamed.{Renaming, renaming}
use Rattle.wcv_lower.specs.Trees.{Tree_context}
use Rattle.wcv_lower.proofs.Renamed.{member-renamed}
use Rattle.wcv_lower.proofs.TreeLaws.{sort-renamed}
use Rattle.wcv_growth.proofs.Alike.{SameKind, IsAlike}
use Rattle.wcv_growth.proofs.Bare.{OwnsNothing, EntriesOwnNothing, PartsOwnNothing, ValuesOwnNothing}
use Rattle.wcv_growth.proofs.Having.{has-renamed}
use Rattle.wcv_growth.proofs.Known.{Within, In, in-renamed_back}
use Rattle.wcv_growth.proofs.MayMake.{Owns}
use Rattle.wcv_growth.proofs.Tidy.{Known, HeadApart, IsPlain, IsTidy, TidyType, TidyEntry}

module _ (w : Renaming) where
  abbrev f : Name → Name
  f = w.resources.to

  abbrev g : Name → Name
  g = w.identities.to

  abbrev to : Type_tree → Type_tree
  to t = rename f g t

  abbrev back : Type_tree → Type_tree
  back t = rename w.resources.back w.identities.back t

  -- what was known by the other name
  abbrev pub known_back : Known → Known
  known_back k i = option_map back (k (g i))

  is_back : (t : Type_tree) → back (to t) ≡ t
  is_back t = back_again t (to t) (record {
    resource_to = f;
    resource_back = w.resources.back;
    identity_to = g;
    identity_back = w.identities.back;
    renamed = refl;
    one_to_one = each-always (λ (r : Name). w.resources.back (f r) ≡ r) (λ (i : Name). w.identities.back (g i) ≡ i) w.resources.is_back w.identities.is_back t;
  })

  -- ## Nodes

  owned_at-renamed : (h : Head Name Name) → owned_at (rename_head f g h) ≡ map f (owned_at h)
  owned_at-renamed (instance i own) = refl
  owned_at-renamed _ = refl

  owned-renamed : (t : Type_tree) → owned (to t) ≡ map f (owned t)
  owned-renamed (node h ps) = owned_at-renamed h

  member_owned : (t : Type_tree) (r : Name) → member (f r) (owned (to t)) ≡ member r (owned t)
  member_owned t r = ap (member (f r)) (owned-renamed t) ∙ member-renamed w r (owned t)

  kind-renamed_back : (t u : Type_tree) → SameKind (to t) (to u) → SameKind t u
  kind-renamed_back t u h = (sym (sort-renamed f g t) ∙ h.0 ∙ sort-renamed f g u, λ r. sym (member_owned t r) ∙ h.1 (f r) ∙ member_owned u r)

  alike-renamed_back : (h : Head Name Name) (ps : Parts Name Name) → IsAlike (rename_head f g h) (rename_parts f g ps) → IsAlike h ps
  alike-renamed_back type_entity none a = (refl, λ r. refl)
  alike-renamed_back type_entity (part k t none) a = kind-renamed_back t (node nothing none) a
  alike-renamed_back type_entity (part k t (part l u ps)) a = kind-renamed_back t u a
  alike-renamed_back _ ps a = tt

  none_mapped : (rs : List Name) → map f rs ≡ [] → rs ≡ []
  none_mapped [] e = refl
  none_mapped (r ∷ rs) e = cc

  nothing-renamed_back : (t : Type_tree) → OwnsNothing (to t) → OwnsNothing t
  nothing-renamed_back t e = none_mapped (owned t) (sym (owned-renamed t) ∙ e)

  bare-renamed_back : (ps : Parts Name Name) → EntriesOwnNothing (rename_parts f g ps) → EntriesOwnNothing ps
  bare-renamed_back none b = tt
  bare-renamed_back (part (import n) t ps) b = (nothing-renamed_back t b.0, bare-renamed_back ps b.1)
  bare-renamed_back (part (export n) t ps) b = (nothing-renamed_back t b.0, bare-renamed_back ps b.1)
  bare-renamed_back (part here t ps) b = bare-renamed_back ps b
  bare-renamed_back (part (label l) t ps) b = bare-renamed_back ps b
  bare-renamed_back (part (core_import m n) t ps) b = bare-renamed_back ps b
  bare-renamed_back (part (core_export n) t ps) b = bare-renamed_back ps b

  parts-renamed_back : (ps : Parts Name Name) → PartsOwnNothing (rename_parts f g ps) → PartsOwnNothing ps
  parts-renamed_back none b = tt
  parts-renamed_back (part k t ps) b = (nothing-renamed_back t b.0, parts-renamed_back ps b.1)

  values-renamed_back : (h : Head Name Name) (ps : Parts Name Name) → ValuesOwnNothing (rename_head f g h) (rename_parts f g ps) → ValuesOwnNothing h ps
  values-renamed_back (func i b) ps v = parts-renamed_back ps v
  values-renamed_back _ ps v = tt

  member_firsts : (rs : List (Name × List ℕ)) (r : Name) → member (f r) (firsts (rename_paths f rs)) ≡ member r (firsts rs)
  member_firsts [] r = refl
  member_firsts (x ∷ rs) r = λ j. same_under f w.resources.back r x.0 (w.resources.is_back r) (w.resources.is_back x.0) j || member_firsts rs r j

  apart-renamed_back : (h : Head Name Name) → HeadApart (rename_head f g h) → HeadApart h
  apart-renamed_back (component i ins outs) a = λ r e. sym (member_firsts ins r) ∙ a (f r) (member_firsts outs r ∙ e)
  apart-renamed_back _ a = tt

  no_parts : (ps : Parts Name Name) → rename_parts f g ps ≡ none → ps ≡ none
  no_parts none e = refl
  no_parts (part k t ps) e = cc

  plain-renamed_back : (h : Head Name Name) (ps : Parts Name Name) → IsPlain (rename_head f g h) (rename_parts f g ps) → IsPlain h ps
  plain-renamed_back (resource r s) ps e = no_parts ps e
  plain-renamed_back _ ps e = tt

  -- it is formed as before
  exports-renamed_back : (ps : Parts Name Name) → ExportsAlone (rename_parts f g ps) → ExportsAlone ps
  exports-renamed_back none w = tt
  exports-renamed_back (part (export n) t ps) w = exports-renamed_back ps w
  exports-renamed_back (part k t ps) w = absurd w

  sides-renamed_back : (ps : Parts Name Name) → SidesAlone (rename_parts f g ps) → SidesAlone ps
  sides-renamed_back none w = tt
  sides-renamed_back (part (import n) t ps) w = sides-renamed_back ps w
  sides-renamed_back (part (export n) t ps) w = sides-renamed_back ps w
  sides-renamed_back (part k t ps) w = absurd w

  item-renamed_back : (t : Type_tree) → IsItem (to t) → IsItem t
  item-renamed_back (node (core_item x) none) w = (x, refl)
  item-renamed_back (node (core_item x) (part k t ps)) w = let e = w.1 in absurd (cc)
  item-renamed_back (node h ps) w = let e = w.1 in absurd (cc)

  items-renamed_back : (ps : Parts Name Name) → ItemsAlone (rename_parts f g ps) → ItemsAlone ps
  items-renamed_back none w = tt
  items-renamed_back (part (core_import a n) t ps) w = (item-renamed_back t w.0, items-renamed_back ps w.1)
  items-renamed_back (part (core_export n) t ps) w = (item-renamed_back t w.0, items-renamed_back ps w.1)
  items-renamed_back (part k t ps) w = absurd w

  formed-renamed_back : (h : Head Name Name) (ps : Parts Name Name) → (IsLevel (rename_head f g h) (rename_parts f g ps) → IsFormed (rename_head f g h) (rename_parts f g ps)) → IsLevel h ps → IsFormed h ps
  formed-renamed_back type_entity none w l = w l
  formed-renamed_back type_entity (part k t none) w l = w l
  formed-renamed_back type_entity (part k t (part o u none)) w l = l
  formed-renamed_back type_entity (part k t (part o u (part q x ps))) w l = w l
  formed-renamed_back (instance i own) ps w l = exports-renamed_back ps (w tt)
  formed-renamed_back (component i ins outs) ps w l = sides-renamed_back ps (w tt)
  formed-renamed_back (core_module i n) ps w l = items-renamed_back ps (w tt)
  formed-renamed_back h ps w l = tt

  -- and its imports and exports have the names that they had
  imports-same : (ps : Parts Name Name) → keys_of (named_imports_in (rename_parts f g ps)) ≡ keys_of (named_imports_in ps)
  imports-same none = refl
  imports-same (part (import n) t ps) = ap (λ (ks : List Text). n.name ∷ ks) (imports-same ps)
  imports-same (part (export n) t ps) = imports-same ps
  imports-same (part here t ps) = imports-same ps
  imports-same (part (label l) t ps) = imports-same ps
  imports-same (part (core_import m n) t ps) = imports-same ps
  imports-same (part (core_export n) t ps) = imports-same ps

  exports-same : (ps : Parts Name Name) → keys_of (named_exports_in (rename_parts f g ps)) ≡ keys_of (named_exports_in ps)
  exports-same none = refl
  exports-same (part (export n) t ps) = ap (λ (ks : List Text). n.name ∷ ks) (exports-same ps)
  exports-same (part (import n) t ps) = exports-same ps
  exports-same (part here t ps) = exports-same ps
  exports-same (part (label l) t ps) = exports-same ps
  exports-same (part (core_import m n) t ps) = exports-same ps
  exports-same (part (core_export n) t ps) = exports-same ps

  named-renamed_back : (ps : Parts Name Name) → AreNamedApart (rename_parts f g ps) → AreNamedApart ps
  named-renamed_back ps w = (subst (IsDistinct bytes_eq) (imports-same ps) w.0, subst (IsDistinct bytes_eq) (exports-same ps) w.1)

  -- ## Types

  module _ (k : Known) where
    known-renamed_back : (i : Name) (t : Type_tree) → k (g i) ≡ Some (to t) → known_back k i ≡ Some t
    known-renamed_back i t e = ap (option_map back) e ∙ ap (λ (u : Type_tree). Some u) (is_back t)

    node-renamed_back : (h : Head Name Name) (ps : Parts Name Name) → IsTidy k (rename_head f g h) (rename_parts f g ps) → IsTidy (known_back k) h ps
    node-renamed_back h ps a = record {
      alike = alike-renamed_back h ps a.alike;
      bare = bare-renamed_back ps a.bare;
      values = values-renamed_back h ps a.values;
      apart = apart-renamed_back h a.apart;
      plain = plain-renamed_back h ps a.plain;
      formed = formed-renamed_back h ps a.formed;
      named = named-renamed_back ps a.named;
      one = λ i e. known-renamed_back i (node h ps) (a.one (g i) (identity-same f g h ∙ ap (option_map (rename_identity f g)) e));
    }

    mutual
      pub tidy-renamed_back : (t : Type_tree) → TidyType k (to t) → TidyType (known_back k) t
      tidy-renamed_back (node h ps) a = (node-renamed_back h ps a.0, tidy_in-renamed_back ps a.1)

      tidy_in-renamed_back : (ps : Parts Name Name) → EachNodeIn (IsTidy k) (rename_parts f g ps) → EachNodeIn (IsTidy (known_back k)) ps
      tidy_in-renamed_back none a = tt
      tidy_in-renamed_back (part l t ps) a = (tidy-renamed_back t a.0, tidy_in-renamed_back ps a.1)

    pub entry-renamed_back : (t : Type_tree) → TidyEntry k (to t) → TidyEntry (known_back k) t
    entry-renamed_back t a = (nothing-renamed_back t a.0, tidy-renamed_back t a.1)

  -- ## Contexts

  module _ (c : Tree_context) where
    abbrev d : Tree_context
    d = map_context (renaming w) c

    entries-renamed_back : (P Q : Type_tree → Type 0) → ((t : Type_tree) → P (to t) → Q t) → AllEntries P d → AllEntries Q c
    entries-renamed_back P Q q h = record {
      core = λ j. all-mapped_back Q P to q (c.core j) (h.core j);
      space = λ j. all-mapped_back Q P to q (c.space j) (h.space j);
      side = λ j. all-mapped_back (λ (e : Extern_name × Type_tree). Q e.1) (λ (e : Extern_name × Type_tree). P e.1) (λ e. (e.0, to e.1)) (λ e. q e.1) (c.side j) (h.side j);
    }

    pub context_tidy-renamed_back : (k : Known) → AllEntries (TidyEntry k) d → AllEntries (TidyEntry (known_back k)) c
    context_tidy-renamed_back k = entries-renamed_back (TidyEntry k) (TidyEntry (known_back k)) (entry-renamed_back k)

    free-renamed_in : (r : Name) (t : Type_tree) → Free r t → Free (f r) (to t)
    free-renamed_in r t = free-renamed f w.resources.back g (λ i. Unit {0}) r t (each-always (λ (q : Name). w.resources.back (f q) ≡ q) (λ (i : Name). Unit {0}) w.resources.is_back (λ i. tt) t)

    -- what is free in an entry is listed
    within-renamed_back : AllEntries (Within (In d)) d → AllEntries (Within (In c)) c
    within-renamed_back = entries-renamed_back (Within (In d)) (Within (In c)) (λ t h r x. in-renamed_back w c r (h (f r) (free-renamed_in r t x)))

    -- types own apart as before, and none owns what is listed
    owns-same : (h : Head Name Name) (r : Name) → owns (rename_head f g h) (f r) ≡ owns h r
    owns-same h r = owns-renamed f w.resources.back g (λ i. Unit {0}) h r (each-always (λ (q : Name). w.resources.back (f q) ≡ q) (λ (i : Name). Unit {0}) w.resources.is_back (λ i. tt) (node h none)).0 (w.resources.is_back r)

    mutual
      owns_not-renamed_back : (r : Name) (t : Type_tree) → OwnsNot (f r) (to t) → OwnsNot r t
      owns_not-renamed_back r (node h ps) o = (sym (owns-same h r) ∙ o.0, owns_not_in-renamed_back r ps o.1)

      owns_not_in-renamed_back : (r : Name) (ps : Parts Name Name) → OwnsNotIn (f r) (rename_parts f g ps) → OwnsNotIn r ps
      owns_not_in-renamed_back r none o = tt
      owns_not_in-renamed_back r (part k t ps) o = (owns_not-renamed_back r t o.0, owns_not_in-renamed_back r ps o.1)

    mutual
      own_apart-renamed_back : (t : Type_tree) → OwnApart (to t) → OwnApart t
      own_apart-renamed_back (node h ps) o = ((λ r e. owns_not_in-renamed_back r ps (o.0 (f r) (owns-same h r ∙ e))), own_apart_in-renamed_back ps o.1)

      own_apart_in-renamed_back : (ps : Parts Name Name) → OwnApartIn (rename_parts f g ps) → OwnApartIn ps
      own_apart_in-renamed_back none o = tt
      own_apart_in-renamed_back (part k t ps) o = (own_apart-renamed_back t o.0, own_apart_in-renamed_back ps o.1)

    in-renamed : (r : Name) → In c r → In d (f r)
    in-renamed r (inl x) = inl (has-renamed f c.imported r x)
    in-renamed r (inr x) = inr (has-renamed f c.defined r x)

    pub owns-renamed_back : AllEntries (Within (In d)) d → AllEntries OwnApart d → ((r : Name) → In d r → AllEntries (OwnsNot r) d) → Owns c
    owns-renamed_back listed apart spared = record {
      listed = within-renamed_back listed;
      apart = entries-renamed_back OwnApart OwnApart own_apart-renamed_back apart;
      spared = λ r i. entries-renamed_back (OwnsNot (f r)) (OwnsNot r) (owns_not-renamed_back r) (spared (f r) (in-renamed r i));
    }
