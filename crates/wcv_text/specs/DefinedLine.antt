-- The line of a defined type, by ids, and what it is made of.
use Rattle.std.specs.Prelude.{List, [], ◌∷◌, ◌++◌, map, codes, Option, Some, None}
use Rattle.std.specs.Fmt.{decimal}
use Rattle.wcv_types.specs.Quoting.{quoted}
use Rattle.wcv_types.specs.Standing.{identity_of}
use Rattle.wcv_types.specs.Text.{Written, primitive_name, node_number, param_text, listed, all_quoted}
use Rattle.wcv_types.specs.Tree.{Text, here, label}
use Rattle.wcv_types.specs.Unfold.{Slots, value_slots}
use Rattle.wcv_types.specs.declared.ids.AliasableResourceId.{AliasableResourceId}
use Rattle.wcv_types.specs.declared.ids.Part.TheVariants as part
use Rattle.wcv_types.specs.declared.shapes.ComponentDefinedType.{ComponentDefinedType}
use Rattle.wcv_types.specs.declared.shapes.ComponentDefinedType.TheVariants as d
use Rattle.wcv_types.specs.declared.shapes.ComponentValType.{ComponentValType}
use Rattle.wcv_text.specs.Mentions.{value_text, option_text}

-- ## The line

-- fields behind what separates the first of them from others
abbrev pub fields_said : Written → Text → List (Text × ComponentValType) → Text
fields_said w before [] = []
fields_said w before (f ∷ fs) = param_text before f.0 (value_text w f.1) ++ fields_said w (codes ", ") fs

-- the type of a case, where it has one
abbrev pub payload_said : Written → Option ComponentValType → Text
payload_said w None = []
payload_said w (Some t) = codes " " ++ value_text w t

-- a case of a variant
abbrev pub case_said : Written → Text × Option ComponentValType → Text
case_said w c = quoted c.0 ++ payload_said w c.1

-- each case
abbrev pub cases_said : Written → List (Text × Option ComponentValType) → List Text
cases_said w [] = []
cases_said w (c ∷ cs) = case_said w c ∷ cases_said w cs

-- each type of a tuple
abbrev pub types_said : Written → List ComponentValType → List Text
types_said w [] = []
types_said w (t ∷ ts) = value_text w t ∷ types_said w ts

-- a handle, behind its word
abbrev pub handle_said : Written → Text → AliasableResourceId → Text
handle_said w word r = word ++ node_number w (identity_of (part.Resource r))

-- what has one part, behind its word
abbrev pub one_said : Written → Text → Option ComponentValType → Text
one_said w word o = word ++ option_text w o

-- what has two
abbrev pub two_said : Written → Text → Option ComponentValType → Option ComponentValType → Text
two_said w word o e = word ++ option_text w o ++ codes " " ++ option_text w e

-- a defined type
abbrev pub defined_said : Written → ComponentDefinedType → Text
defined_said w (d.Primitive p) = codes "prim " ++ primitive_name p
defined_said w (d.Record fs) = codes "record {" ++ fields_said w [] fs.items ++ codes "}"
defined_said w (d.Variant cs) = codes "variant {" ++ listed [] (cases_said w cs.items) ++ codes "}"
defined_said w (d.Tuple ts) = codes "tuple {" ++ listed [] (types_said w ts.items) ++ codes "}"
defined_said w (d.Flags ns) = codes "flags {" ++ listed [] (all_quoted ns.items) ++ codes "}"
defined_said w (d.Enum ns) = codes "enum {" ++ listed [] (all_quoted ns.items) ++ codes "}"
defined_said w (d.List t) = one_said w (codes "list ") (Some t)
defined_said w (d.FixedLengthList t n) = codes "fixed-list " ++ value_text w t ++ codes " " ++ decimal n
defined_said w (d.Option t) = one_said w (codes "option ") (Some t)
defined_said w (d.Map k t) = two_said w (codes "map ") (Some k) (Some t)
defined_said w (d.Result o e) = two_said w (codes "result ") o e
defined_said w (d.Future o) = one_said w (codes "future ") o
defined_said w (d.Stream o) = one_said w (codes "stream ") o
defined_said w (d.Own r) = handle_said w (codes "own ") r
defined_said w (d.Borrow r) = handle_said w (codes "borrow ") r

-- ## Parts

-- the fields of a record
abbrev pub record_slots : List (Text × ComponentValType) → Slots
record_slots fs = value_slots (map (λ f. (label f.0, Some f.1)) fs)

-- the cases of a variant
abbrev pub variant_slots : List (Text × Option ComponentValType) → Slots
variant_slots cs = value_slots (map (λ c. (label c.0, c.1)) cs)

-- the types of a tuple
abbrev pub tuple_slots : List ComponentValType → Slots
tuple_slots ts = value_slots (map (λ t. (here, Some t)) ts)
