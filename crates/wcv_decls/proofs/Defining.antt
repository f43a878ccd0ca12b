-- A resource that is defined: the state after it, and what is kept.
use Rattle.std.proofs.Common.{◌≡◌, ◌+◌, List, [], ◌∷◌, refl, sym, ◌∙◌, ap, subst, arith, append-nil, Bool, true, false, cond, ◌&&◌, Some, None}
use Rattle.std.specs.Prelude.{Option}
use Rattle.std.specs.Option.{option_map}
use Rattle.std.proofs.lemmas.Bool.{false≢true}
use Rattle.std.proofs.lemmas.List.{map-append}
use Rattle.std.proofs.lemmas.List.Elements.{All-push}
use Rattle.wcv_core.specs.Names.{Place, number, stamp}
use Rattle.wcv_core.specs.declared.core_types.ValType.{ValType}
use Rattle.wcv_core.specs.declared.core_types.ValType.TheVariants as val
use Rattle.wcv_core.specs.declared.features.WasmFeatures.{WasmFeatures}
use Rattle.wcv_syntax.specs.Model.{resource_type}
use Rattle.wcv_types.specs.Arena.{Arena}
use Rattle.wcv_types.specs.ComponentTrees.{ResourceStands}
use Rattle.wcv_types.specs.Standing.{Extends, Stands}
use Rattle.wcv_types.specs.Tree as tree
use Rattle.wcv_types.specs.declared.ids.AliasableResourceId.{AliasableResourceId}
use Rattle.wcv_types.specs.declared.ids.ComponentAnyTypeId.TheVariants as any
use Rattle.wcv_types.specs.declared.ids.Part.TheVariants as part
use Rattle.wcv_types.specs.declared.ids.ResourceId.{ResourceId}
use Rattle.wcv_types.proofs.Grown.{extends_refl}
use Rattle.wcv_lower.specs.Checks.{IsFree}
use Rattle.wcv_lower.specs.Context.{is_concrete, in_types, push, define}
use Rattle.wcv_lower.specs.Given.{names_of}
use Rattle.wcv_lower.specs.Readers.{Maker}
use Rattle.wcv_lower.specs.Step.{Step, apply, joins_types, defines}
use Rattle.wcv_lower.specs.Trees.{type_entry, Tree_context, tree_reader, tree_maker}
use Rattle.wcv_lower.specs.Types.{dtor_stands, rep_checks}
use Rattle.wcv_spaces.specs.Contents.{Contents, kind_of, context_of, stack_of, defined_resource, with_defined, with_id, spent, names, sides, is_number, StateStands}
use Rattle.wcv_spaces.specs.Looking.{has_resource}
use Rattle.wcv_spaces.specs.Promises.{Keeps}
use Rattle.wcv_spaces.proofs.Given.{resource_names, resource_given, resource_name, reference_same}
use Rattle.wcv_spaces.proofs.Keeping.{no_more, entries_refl, state_stands, same_context, keeps_grown, keeps_trans, keeps_marked, keeps_with_id, with_id_context}
use Rattle.wcv_spaces.proofs.Listed.{later_is_new}
use Rattle.wcv_decls.specs.Items.{Declares}

-- a representation that may be written is a number
pub rep_is_number : (fs : WasmFeatures) (rep : ValType) → IsFree (rep_checks fs rep) → is_number (Some rep) ≡ true
rep_is_number fs val.I32 h = refl
rep_is_number fs val.I64 h = refl
rep_is_number fs val.F32 h = absurd (false≢true (sym h.0))
rep_is_number fs val.F64 h = absurd (false≢true (sym h.0))
rep_is_number fs val.V128 h = absurd (false≢true (sym h.0))
rep_is_number fs (val.Ref r) h = absurd (false≢true (sym h.0))

keeps_defined : (a : Arena) (r : ResourceId) (v : Option ValType) (s : Contents) → is_number v ≡ true → StateStands a s → ResourceStands a r → Keeps a a s (with_defined r v s)
keeps_defined a r v s n h k = record {
  arena = extends_refl a;
  stands = record {
    space = h.space;
    core = h.core;
    side = h.side;
    imported = h.imported;
    defined = All-push (λ (p : ResourceId × Option ValType). ResourceStands a p.0) s.defined_resources (r, v) h.defined k;
    numbers = All-push (λ (p : ResourceId × Option ValType). is_number p.1 ≡ true) s.defined_resources (r, v) h.numbers n;
    named = h.named;
    lead = h.lead;
    sized = record { size = h.sized.size; depth = h.sized.depth };
  };
  entries = entries_refl s.spaces;
  sides = λ d. no_more (sides s d);
  imported = no_more s.imported_resources;
  defined = ((r, v) ∷ [], refl);
  named = λ d. no_more (names s d);
  kind = refl;
  features = refl;
  context_type = λ w e. e;
}

defined_context : (a : Arena) (r : ResourceId) (v : Option ValType) (s : Contents) → context_of a (with_defined r v s) ≡ define (number r.index) v (context_of a s)
defined_context a r v s = λ j. record (context_of a s) { defined = map-append defined_resource s.defined_resources ((r, v) ∷ []) j }

-- the arena made a resource and a reference to it
module _ (a b : Arena) (s : Contents) (id : AliasableResourceId) (h : StateStands a s) (eb : b ≡ record a { resources = a.resources + 1; stamps = a.stamps + 1 }) (is : id ≡ record { resource = record { index = a.resources }; stamp = a.stamps }) where
  more : b.resources ≡ a.resources + 1
  more = ap (λ (x : Arena). x.resources) eb

  stamps : b.stamps ≡ a.stamps + 1
  stamps = ap (λ (x : Arena). x.stamps) eb

  grew : Extends a b
  grew = record { more = []; groups = []; core = ap (λ (x : Arena). x.core) eb ∙ sym (append-nil a.core); nodes = ap (λ (x : Arena). x.nodes) eb ∙ sym (append-nil a.nodes); resources = omega (arith, more); stamps = omega (arith, stamps) }

  pub made_keeps : Keeps a b s s
  made_keeps = keeps_grown a b s grew h

  pub made_stands : StateStands b s
  made_stands = state_stands a b grew s h

  pub is_new_import : has_resource id.resource s.imported_resources ≡ false
  is_new_import = subst (λ (i : AliasableResourceId). has_resource i.resource s.imported_resources ≡ false) (sym is) (later_is_new a (record { index = a.resources }) s.imported_resources (omega arith) h.imported)

  pub is_new_definition : has_resource id.resource s.defined_resources ≡ false
  is_new_definition = subst (λ (i : AliasableResourceId). has_resource i.resource s.defined_resources ≡ false) (sym is) (later_is_new a (record { index = a.resources }) s.defined_resources (omega arith) h.defined)

  stands_there : Stands b (part.Resource id)
  stands_there = subst (λ (i : AliasableResourceId). Stands b (part.Resource i)) (sym is) (record { resource = omega (arith, more); stamp = omega (arith, stamps) })

  pub defined_keeps : (v : Option ValType) → is_number v ≡ true → Keeps a b s (with_defined id.resource v s)
  defined_keeps v n = keeps_trans a b b s s (with_defined id.resource v s) made_keeps (keeps_defined b id.resource v s n made_stands stands_there.resource)

  pub pushed_keeps : (v : Option ValType) → is_number v ≡ true → Keeps a b s (with_id in_types (any.Resource id) (with_defined id.resource v s))
  pushed_keeps v n =
      let t : Contents = with_defined id.resource v s in
      let k : Keeps a b s t = defined_keeps v n in
      keeps_trans a b b s t (with_id in_types (any.Resource id) t) k (keeps_with_id b in_types (any.Resource id) t k.stands (stands_there, stands_there))

  pub spent_keeps : (t : Contents) → Keeps a b s t → Keeps a b s (spent t)
  spent_keeps t k = keeps_trans a b b s t (spent t) k (keeps_marked b t t true refl k.stands)

  -- the state after the resource
  abbrev with_resource : ValType → Contents
  with_resource rep = with_id in_types (any.Resource id) (with_defined id.resource (Some rep) s)

  resource_context : (rep : ValType) → context_of b (with_resource rep) ≡ push in_types (type_entry (tree.resource_type (number a.resources) (stamp a.stamps))) (define (number a.resources) (Some rep) (context_of a s))
  resource_context rep =
      with_id_context b in_types (any.Resource id) (with_defined id.resource (Some rep) s) ∙
      (λ j. push in_types (type_entry (tree.resource_type (number id.resource.index) (stamp id.stamp))) (defined_context b id.resource (Some rep) s j)) ∙
      (λ j. push in_types (type_entry (tree.resource_type (number (is j).resource.index) (stamp (is j).stamp))) (define (number (is j).resource.index) (Some rep) (same_context a b grew s h j)))

  abbrev maker_at : Place → Maker tree_reader
  maker_at p = tree_maker (names_of (resource_names a p)) p

  resource_grows : (rep : ValType) (outer : List Tree_context) (p : Place) → apply (defines (maker_at p).resource (Some rep) ∷ joins_types (maker_at p).reference) (stack_of a s outer) ≡ stack_of b (with_resource rep) outer
  resource_grows rep outer p =
      let e : push in_types (maker_at p).reference (define (maker_at p).resource (Some rep) (context_of a s)) ≡ context_of b (with_resource rep) =
      (λ j. push in_types (type_entry (reference_same a p j)) (define (resource_name a p j) (Some rep) (context_of a s))) ∙ sym (resource_context rep) in
      λ j. record { top = e j; outer = outer; groups = sym (ap (λ (x : Arena). x.core) eb) j }

  pub resource_declares : (rep : ValType) (dtor : Option _) (s' : Contents) → is_concrete (kind_of s.kind) ≡ true → dtor_stands (context_of a s) dtor ≡ true → s.spent ≡ false → is_number (Some rep) ≡ true → s' ≡ with_resource rep → Declares a b s s' (resource_type rep dtor)
  resource_declares rep dtor s' concrete there live n es = subst (λ (z : Contents). Declares a b s z (resource_type rep dtor)) (sym es) (record {
    given_names = resource_names a;
    given = λ p. resource_given a b p more stamps;
    grown = λ outer p.
        ap (λ (x : Bool). option_map (λ (y : Step tree_reader). apply y (stack_of a s outer)) (cond x (Some (defines (maker_at p).resource (Some rep) ∷ joins_types (maker_at p).reference)) None)) (λ j. concrete j && there j) ∙
        ap Some (resource_grows rep outer p);
    live = live;
    keeps = pushed_keeps (Some rep) n;
  })
