use Rattle.std.proofs.Common.{◌≡◌, map, string_bytes, drop}
use Rattle.std.specs.Cmp.Lexicographic.{slice_cmp}
use Rattle.std.specs.Ordering.{nat_cmp}
use Rattle.std.specs.FinMap.{find}
use Rattle.gic_files.proofs.memory_library.find_file.Given as goal

-- no file so far has the name
abbrev pub invariant-loop-file : goal.invariant-loop-file
invariant-loop-file l =
    find (slice_cmp nat_cmp) l.name (map (λ f. (string_bytes f.0, f.1.items)) l.files)
    ≡ find (slice_cmp nat_cmp) l.name (map (λ f. (string_bytes f.0, f.1.items)) (drop l.file-index l.files))
