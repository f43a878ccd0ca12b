-- Versions of interfaces.
use Rattle.std.specs.Prelude.{◌++◌, Bool, true, false, is_ok, Option, Some, None, Result, Ok, Err}
use Rattle.semver.specs.Parse.{Parts, version_parts}
use Rattle.semver.specs.declared.error.Error.{Error}
use Rattle.wcv_syntax.specs.ExternName.{Text}

-- the version in the name and the rest of it, which may stand beside the name
abbrev pub whole_version : Text → Option Text → Text
whole_version v None = v
whole_version v (Some s) = v ++ s

-- a version by SemVer 2.0.0
abbrev pub is_version : Text → Bool
is_version t = is_ok (version_parts t)

-- what there is of a version makes one whole; with no version in the name nothing stands beside it
abbrev pub is_versioned : Option Text → Option Text → Bool
is_versioned None None = true
is_versioned None (Some s) = false
is_versioned (Some v) s = is_version (whole_version v s)

abbrev pub read_parts : Result Parts Error → Option Parts
read_parts (Ok p) = Some p
read_parts (Err e) = None

-- the numbers and identifiers of the version, where there is one
abbrev pub version_of : Option Text → Option Text → Option Parts
version_of None s = None
version_of (Some v) s = read_parts (version_parts (whole_version v s))
