-- The cleaner, fed one entry at a time: what it holds then, and which entry is settled.
use Rattle.std.specs.Prelude.{cond, Option, Some, None, option_to_list, List, [], ◌∷◌, ◌++◌}
use Rattle.entries.specs.declared.Entry.{Entry}
use Rattle.cleaned.specs.declared.Cleaner.{Cleaner}
use Rattle.cleaned.specs.declared.Cleaner.TheVariants.{Empty, Kept, Undecided}
use Rattle.cleaned.specs.declared.Fed.{Fed}
use Rattle.cleaned.specs.Moves.{same_pixel, is_elbow}

-- in the run of a kept entry a
abbrev pub fed_kept : Entry → Entry → Fed
fed_kept a e =
    cond (same_pixel a e)
    (record { cleaner = Kept a e; settled = None })
    (record { cleaner = Undecided a e e; settled = Some a })

-- in the run of b, after a kept entry a
abbrev pub fed_undecided : Entry → Entry → Entry → Fed
fed_undecided a b e =
    cond (same_pixel b e)
    (record { cleaner = Undecided a b e; settled = None })
    (cond (is_elbow a b e)
    (record { cleaner = Kept e e; settled = None })
    (record { cleaner = Undecided b e e; settled = Some b }))

unfoldable pub fed : Cleaner → Entry → Fed
fed Empty e = record { cleaner = Kept e e; settled = None }
fed (Kept a l) e = fed_kept a e
fed (Undecided a b l) e = fed_undecided a b e

-- at the end the latest entry stays
unfoldable pub ending : Cleaner → Option Entry
ending Empty = None
ending (Kept a l) = Some l
ending (Undecided a b l) = Some l

-- ---- over a list

-- what is handed out from here on, and at the end
unfoldable pub handed : Cleaner → List Entry → List Entry
handed c [] = option_to_list (ending c)
handed c (e ∷ es) = option_to_list (fed c e).settled ++ handed (fed c e).cleaner es
