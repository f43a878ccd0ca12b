-- The limits of this validator, all in one place. What passes one is refused with the kind `Limit`, and a listing
-- with too many bytes by a status of its own. src/limits.rt has the same numbers for code.
use Rattle.std.specs.Prelude.{ℕ}

-- the most entries of a space of types, functions or core items, and of a list of imports or of exports; types are
-- counted together with core types, and functions with core functions; so are the distinct core types of an arena,
-- and the types of a core module
abbrev pub max_entries : ℕ
max_entries = 1000000

-- the most core modules, components, values, and instances together with core instances
abbrev pub max_instances : ℕ
max_instances = 1000

-- the most components and declared types that are open at once, the root's component among them
abbrev pub max_open : ℕ
max_open = 100

-- the size that a type, or the whole of a component's entries, may have
abbrev pub max_size : ℕ
max_size = 1000000

-- how deep a type may be nested
abbrev pub max_depth : ℕ
max_depth = 512

-- the most elements of a list of a fixed length
abbrev pub max_elements : ℕ
max_elements = 65536

-- the most bytes that a value type may take in memory
abbrev pub max_abi_size : ℕ
max_abi_size = 268435456

-- the most declared supertypes above a core type
abbrev pub max_supertypes : ℕ
max_supertypes = 63

-- the most parameters of a function, and the most parameters or results of a core function
abbrev pub max_params : ℕ
max_params = 1000

-- the most entries of any other list in an item
abbrev pub max_list : ℕ
max_list = 100000

-- the most bytes of a text in an item
abbrev pub max_text : ℕ
max_text = 100000

-- the most bytes of a listing
abbrev pub max_listing : ℕ
max_listing = 67108864
