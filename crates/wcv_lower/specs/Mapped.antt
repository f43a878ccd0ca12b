-- Entries of one kind read as entries of another, and contexts and steps with them.
use Rattle.std.specs.Prelude.{ℕ, List, map, slice_get, true, Option, Some, ◌≡◌}
use Rattle.std.specs.Option.{option_map}
use Rattle.wcv_core.specs.CoreForm.{Group}
use Rattle.wcv_core.specs.declared.core_types.EntityType.{EntityType}
use Rattle.wcv_core.specs.declared.core_types.ValType.{ValType}
use Rattle.wcv_core.specs.declared.features.WasmFeatures.{WasmFeatures}
use Rattle.wcv_core.specs.declared.primitive.PrimitiveValType.{PrimitiveValType}
use Rattle.wcv_types.specs.Abi.{Mark}
use Rattle.wcv_types.specs.Tree.{Text, Extern_name, Role}
use Rattle.wcv_lower.specs.Context.{Context, Stack, Side, Space, Core_space}
use Rattle.wcv_lower.specs.Readers.{Reader, Maker, Named, New_node, func_node, defined_node, module_node, core_instance_node, core_exports_node, instance_node, component_node, Brought, first_named}
use Rattle.wcv_lower.specs.Step.{Change, appends, lists, introduces, defines, creates, core_appends, interns, charges, types_slots, marks_value, uses_value, names_start, Step}
use Rattle.wcv_lower.specs.Uses.{Uses}

abbrev pub map_entries : {E F : Type 0} → (E → F) → List (Extern_name × E) → List (Extern_name × F)
map_entries f es = map (λ e. (e.0, f e.1)) es

-- entries by their names alone
abbrev pub map_named : {E F : Type 0} → (E → F) → List (Text × E) → List (Text × F)
map_named f es = map (λ e. (e.0, f e.1)) es

abbrev pub map_parts : {E F : Type 0} → (E → F) → List (Role × E) → List (Role × F)
map_parts f ps = map (λ p. (p.0, f p.1)) ps

abbrev pub map_paths : {R S : Type 0} → (R → S) → List (R × List ℕ) → List (S × List ℕ)
map_paths f rs = map (λ r. (f r.0, r.1)) rs

pub record Map (X Y : Reader) : Type 0 where
  pub entry : X.Entry → Y.Entry
  pub resource : X.Resource → Y.Resource
  pub identity : X.Identity → Y.Identity

-- the map commutes with all that is read; of the sort, of exports and of a function's parts, where the entry is known. What is read of a known one is known
pub record Commutes {X Y : Reader} (m : Map X Y) (Known : X.Entry → Type 0) : Type 0 where
  pub sort : (x : X.Entry) → Known x → Y.sort (m.entry x) ≡ X.sort x
  pub size : (x : X.Entry) → Y.size (m.entry x) ≡ X.size x
  pub depth : (x : X.Entry) → Y.depth (m.entry x) ≡ X.depth x
  pub created : (x : X.Entry) → Y.created (m.entry x) ≡ m.entry (X.created x)
  pub referenced : (x : X.Entry) → Y.referenced (m.entry x) ≡ m.entry (X.referenced x)
  pub exports : (x : X.Entry) → Known x → Y.exports (m.entry x) ≡ map_entries m.entry (X.exports x)
  pub params : (x : X.Entry) → Known x → Y.params (m.entry x) ≡ map m.entry (X.params x)
  pub result : (x : X.Entry) → Known x → Y.result (m.entry x) ≡ option_map m.entry (X.result x)
  pub referenced_known : (x : X.Entry) → Known x → Known (X.referenced x)
  pub export_known : (x : X.Entry) → Known x → (n : Text) (y : X.Entry) → first_named n (X.exports x) ≡ Some y → Known y
  pub introduced : (x : X.Entry) → Y.introduced (m.entry x) ≡ map_paths m.resource (X.introduced x)
  pub creates : (x : X.Entry) → Y.creates (m.entry x) ≡ map m.identity (X.creates x)
  pub same : (i j : X.Identity) → Y.same (m.identity i) (m.identity j) ≡ X.same i j
  pub is_named : (named : Side → List X.Identity) (s : Side) (x : X.Entry) → Y.is_named (λ d. map m.identity (named d)) s (m.entry x) ≡ X.is_named named s x
  pub name_checks : (fs : WasmFeatures) (es : Named X) (n : Extern_name) (x : X.Entry) → Y.name_checks fs (map_entries m.entry es) n (m.entry x) ≡ X.name_checks fs es n x
  pub bare_name_checks : (fs : WasmFeatures) (es : Named X) (n : Extern_name) (x : X.Entry) → Y.bare_name_checks fs (map_entries m.entry es) n (m.entry x) ≡ X.bare_name_checks fs es n x
  pub matches : (gs : List Group) (x y : X.Entry) → Y.matches gs (m.entry x) (m.entry y) ≡ X.matches gs x y
  pub opens : (gs : List Group) (args : List (Text × X.Entry)) (x : X.Entry) → Y.opens gs (map_named m.entry args) (m.entry x) ≡ X.opens gs args x
  pub has_free : (x : X.Entry) → Y.has_free (m.entry x) ≡ X.has_free x
  pub is_free : (r : X.Resource) (x : X.Entry) → Y.is_free (m.resource r) (m.entry x) ≡ X.is_free r x
  pub first_path : (r : X.Resource) (es : Named X) → Y.first_path (m.resource r) (map_entries m.entry es) ≡ X.first_path r es
  pub core_entry : (x : X.Entry) → Y.core_entry (m.entry x) ≡ X.core_entry x
  pub core_type : (i : ℕ) → Y.core_type i ≡ m.entry (X.core_type i)
  pub core_imports : (x : X.Entry) → Y.core_imports (m.entry x) ≡ X.core_imports x
  pub core_exports : (x : X.Entry) → Y.core_exports (m.entry x) ≡ X.core_exports x
  pub item : (x : X.Entry) → Y.item (m.entry x) ≡ X.item x
  pub core_item : (e : EntityType) → Y.core_item e ≡ m.entry (X.core_item e)
  pub primitive_known : (p : PrimitiveValType) → Known (X.primitive p)
  pub primitive : (p : PrimitiveValType) → Y.primitive p ≡ m.entry (X.primitive p)
  pub left_out : Y.left_out ≡ m.entry X.left_out
  pub primitive_of : (x : X.Entry) → Y.primitive_of (m.entry x) ≡ X.primitive_of x
  pub contains : (k : Mark) (x : X.Entry) → Y.contains k (m.entry x) ≡ X.contains k x
  pub abi_size : (k : ℕ) (x : X.Entry) → Y.abi_size k (m.entry x) ≡ X.abi_size k x
  pub outline : (x : X.Entry) → Y.outline (m.entry x) ≡ X.outline x

-- what stands in the context is known
pub record IsKnown {X : Reader} (Known : X.Entry → Type 0) (c : Context X) : Type 0 where
  pub space : (k : Space) (i : ℕ) (x : X.Entry) → slice_get (c.space k) i ≡ Some x → Known x
  pub core : (k : Core_space) (i : ℕ) (x : X.Entry) → slice_get (c.core k) i ≡ Some x → Known x

module _ {X Y : Reader} (m : Map X Y) where
  abbrev pub map_defined : List (X.Resource × Option ValType) → List (Y.Resource × Option ValType)
  map_defined ds = map (λ d. (m.resource d.0, d.1)) ds

  abbrev pub map_context : Context X → Context Y
  map_context c = record {
    kind = c.kind;
    core = λ k. map m.entry (c.core k);
    space = λ k. map m.entry (c.space k);
    side = λ s. map_entries m.entry (c.side s);
    imported = map_paths m.resource c.imported;
    defined = map_defined c.defined;
    named = λ s. map m.identity (c.named s);
    size = c.size;
    depth = c.depth;
    aliased = c.aliased;
    context_type = c.context_type;
    used = c.used;
    started = c.started;
  }

  abbrev pub map_stack : Stack X → Stack Y
  map_stack s = record { top = map_context s.top; outer = map map_context s.outer; groups = s.groups }

  abbrev pub map_change : Change X → Change Y
  map_change (appends k x) = appends k (m.entry x)
  map_change (lists s n x) = lists s n (m.entry x)
  map_change (introduces s rs) = introduces s (map_paths m.resource rs)
  map_change (defines r v) = defines (m.resource r) v
  map_change (creates s is) = creates s (map m.identity is)
  map_change (core_appends k x) = core_appends k (m.entry x)
  map_change (interns gs) = interns gs
  map_change (charges k n) = charges k n
  map_change (types_slots v) = types_slots v
  map_change (marks_value b) = marks_value b
  map_change (uses_value k) = uses_value k
  map_change names_start = names_start

  abbrev pub map_step : Step X → Step Y
  map_step p = map map_change p

  abbrev pub map_brought : Brought X → Brought Y
  map_brought b = record { entity = m.entry b.entity; resources = map_paths m.resource b.resources }

  abbrev pub map_node : New_node X → New_node Y
  map_node (func_node b ps) = func_node b (map_parts m.entry ps)
  map_node (defined_node k ps) = defined_node k (map_parts m.entry ps)
  map_node (module_node t) = module_node t
  map_node (core_instance_node n x) = core_instance_node n (m.entry x)
  map_node (core_exports_node n es) = core_exports_node n es
  map_node (instance_node own es) = instance_node (map m.resource own) (map_entries m.entry es)
  map_node (component_node ins outs es es') = component_node (map_paths m.resource ins) (map_paths m.resource outs) (map_entries m.entry es) (map_entries m.entry es')

-- what one maker makes for an item is what the other makes of the read entries: of the type that is made again, if there is one, of
-- a resource, if there is a new one, of the type of an instance that is introduced, of the component that is instantiated, and of the
-- node that is made, if there is one
pub record MakesSame {X Y : Reader} (m : Map X Y) (Known : X.Entry → Type 0) (k : Maker X) (l : Maker Y) (u : Uses X) : Type 0 where
  pub again : (x : X.Entry) → u.old ≡ Some x → l.again (m.entry x) ≡ m.entry (k.again x)
  pub again_known : (x : X.Entry) → u.old ≡ Some x → Known (k.again x)
  pub resource : u.new ≡ true → l.resource ≡ m.resource k.resource
  pub reference : u.new ≡ true → l.reference ≡ m.entry k.reference
  pub reference_known : u.new ≡ true → Known k.reference
  pub instance_of : (x : X.Entry) → u.instance ≡ Some x → l.instance_of (m.entry x) ≡ map_brought m (k.instance_of x)
  pub instance_known : (x : X.Entry) → u.instance ≡ Some x → Known (k.instance_of x).entity
  pub instantiate : (args : List (Text × X.Entry)) (x : X.Entry) → u.component ≡ Some (args, x) → l.instantiate (map_named m.entry args) (m.entry x) ≡ map_brought m (k.instantiate args x)
  pub build : (n : New_node X) → u.node ≡ Some n → l.build (map_node m n) ≡ m.entry (k.build n)
  pub build_type : (n : New_node X) → u.node ≡ Some n → l.build_type (map_node m n) ≡ m.entry (k.build_type n)
