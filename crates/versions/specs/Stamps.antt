-- The versions whose keys and times a search is lent. Assumes nothing.
use Rattle.std.specs.Prelude.{List, ℕ}
use Rattle.versions.specs.declared.Version.{Version}
use Rattle.versions.specs.declared.stamps.Stamps.{Stamps}
use Rattle.versions.specs.Versions.{columns, versions_of}

-- the versions with these keys and times, and these values and marks
abbrev pub versions_in : Stamps → List ℕ → List ℕ → List Version
versions_in s values marks = versions_of s.used (columns s.keys.now s.times.now values marks)
