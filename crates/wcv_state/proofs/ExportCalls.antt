-- An entity that was opened joins the exports.
use Rattle.std.proofs.Common.{◌≡◌, ℕ, List, refl, sym, ◌∙◌, subst, Bool, inl}
use Rattle.wcv_core.specs.Names.{Place}
use Rattle.wcv_core.specs.Refusal.{error_kind}
use Rattle.wcv_core.specs.declared.error.Error.{Error}
use Rattle.wcv_core.specs.declared.error.ErrorKind.TheVariants as kind
use Rattle.wcv_syntax.specs.declared.name.ComponentExternName.{ComponentExternName}
use Rattle.wcv_types.specs.Arena.{Arena}
use Rattle.wcv_types.specs.Entities.{entity_tree}
use Rattle.wcv_types.specs.Unfold.{Type_tree, trees}
use Rattle.wcv_types.specs.declared.shapes.ComponentEntityType.{ComponentEntityType}
use Rattle.wcv_lower.specs.Checks.{Checks, IsFree}
use Rattle.wcv_lower.specs.Context.{exporting}
use Rattle.wcv_lower.specs.Entries.{extern_name, join_checks}
use Rattle.wcv_lower.specs.Given.{names_of, none_given}
use Rattle.wcv_lower.specs.Owned.{IsLed}
use Rattle.wcv_lower.specs.Readers.{Maker}
use Rattle.wcv_lower.specs.Step.{brought_at, apply, enters}
use Rattle.wcv_lower.specs.Trees.{Tree_context, tree_reader, tree_maker}
use Rattle.wcv_spaces.specs.Bringing.{EntityOpened, HasJoined}
use Rattle.wcv_spaces.specs.Contents.{Contents, context_of, stack_of, StateStands}
use Rattle.wcv_spaces.specs.Promises.{MemoryOrCausedBy, Entered, EntryCaused}
use Rattle.wcv_spaces.specs.declared.new_entity.NewEntity.{NewEntity}
use Rattle.wcv_spaces.proofs.Keeping.{same_context}

-- out of memory
pub entry_memory : {M : Type 0} (limited : Bool) (a b : Arena) (p : Place) (s : Contents) (n : ComponentExternName) (x : ComponentEntityType) (offset : ℕ) (e : Error M) → error_kind e ≡ kind.OutOfMemory → EntryCaused limited a b p s n x offset e
entry_memory limited a b p s n x offset e t = record { names = none_given; given = record { resources = tt; identities = tt }; bare = λ k. refl; caused = inl t }

module _ (limited : Bool) (a b : Arena) (p : Place) (s : Contents) (n : ComponentExternName) (x : ComponentEntityType) (e : NewEntity) (h : StateStands a s) (o : EntityOpened a b x e) where
  abbrev mk : Maker tree_reader
  mk = tree_maker (names_of (o.given_names p)) p

  -- the causes in the arena after it are those before
  abbrev of_entry : Tree_context → Type_tree → Checks
  of_entry c t = join_checks limited s.features exporting (extern_name n) c t

  checks_same : of_entry (context_of b s) (entity_tree (trees b.nodes) e.ty) ≡ of_entry (context_of a s) (brought_at mk (entity_tree (trees a.nodes) x)).entity
  checks_same = λ j. of_entry (same_context a b o.grown s h j) (sym (o.brought p) j).entity

  module _ (outer : List Tree_context) (s' : Contents) where
    before : stack_of b s outer ≡ stack_of a s outer
    before = λ j. record { top = same_context a b o.grown s h j; outer = outer; groups = o.core j }

  pub entry_refused : {M : Type 0} (offset : ℕ) (er : Error M) → MemoryOrCausedBy (join_checks limited s.features exporting (extern_name n) (context_of b s) (entity_tree (trees b.nodes) e.ty)) offset er → EntryCaused limited a b p s n x offset er
  entry_refused offset er t = record {
    names = o.given_names p;
    given = o.given p;
    bare = λ k. (o.bare k).1 p;
    caused = subst (λ (cs : Checks). MemoryOrCausedBy cs offset er) checks_same t;
  }

pub entry_entered : (limited : Bool) (a b : Arena) (outer : List Tree_context) (p : Place) (s s' : Contents) (n : ComponentExternName) (x : ComponentEntityType) (e : NewEntity) → StateStands a s → EntityOpened a b x e → HasJoined limited exporting b s s' n e →
    (IsLed (context_of b s) → IsLed (context_of b s')) → Entered limited a b outer p s s' n x
entry_entered limited a b outer p s s' n x e h o j led = record {
  names = o.given_names p;
  given = o.given p;
  entered = j.entered outer ∙ (λ i. apply (enters exporting (extern_name n) (sym (o.brought p) i)) (before limited a b p s n x e h o outer s' i));
  bare = λ k. (o.bare k).1 p;
  free = subst IsFree (checks_same limited a b p s n x e h o) j.free;
  led = λ l. led (subst IsLed (sym (same_context a b o.grown s h)) l);
  live = j.live;
}
