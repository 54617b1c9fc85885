-- What the steps of a pass leave: lines, segments of four lines, and edges.
use Rattle.std.specs.Prelude.{◌≡◌, Bool, true, false, not, nat_eq, ◌&&◌, ℕ, ◌+◌, ◌*◌, ◌/◌, ◌%◌}
use Rattle.hv_deblock_model.specs.declared.line.Line.{Line}
use Rattle.hv_deblock_model.specs.EdgeStrength.{Squares, edge_strength}
use Rattle.hv_deblock_model.specs.EdgeFilters.{beta, is_filtered, luma_edge, chroma_edge}
use Rattle.hv_deblock_model.specs.Deblocking.{Samples, EdgeFilter, line_at, line_sample, luma_filter, chroma_filter}
use Rattle.hv_deblock.specs.declared.component.Component.{Component}
use Rattle.hv_deblock.specs.declared.component.Component.TheVariants.{Luma, Chroma}

-- a line of an edge of this strength
abbrev pub edge_line : Component → ℕ → ℕ → Line → Line → Line → Line
edge_line Luma qp bS first last line = luma_edge qp bS first last line
edge_line Chroma qp bS first last line = chroma_edge qp bS line

-- whether a line of such an edge may change at all
abbrev pub edge_changes : Component → ℕ → ℕ → Line → Line → Bool
edge_changes Luma qp bS first last = not (nat_eq bS 0) && is_filtered (beta qp) first last
edge_changes Chroma qp bS first last = nat_eq bS 2

-- whether no line of such a component changes
abbrev pub is_still : Component → ℕ → Bool
is_still Luma qp = nat_eq (beta qp) 0
is_still Chroma qp = false

-- the new sample in column x of row y, of the four rows from `top` on across edge k
abbrev pub segment_sample : Component → ℕ → ℕ → ℕ → ℕ → Samples → Samples
segment_sample component qp bS k top samples x y =
    line_sample
    (edge_line component qp bS (line_at samples k top) (line_at samples k (top + 3))
    (line_at samples k y))
    ((x + 4) % 8)

-- the filter of all edges of a component
abbrev pub filter_of : Component → ℕ → Squares → EdgeFilter
filter_of Luma qp = luma_filter qp
filter_of Chroma qp = chroma_filter qp

-- the strength of four rows, those of number `four`, across edge k
abbrev pub strength_of_four : Component → Squares → ℕ → ℕ → ℕ
strength_of_four Luma squares k four = edge_strength squares k (four / 2)
strength_of_four Chroma squares k four = edge_strength squares (2 * k) four

-- whether these four rows are of one square with the four rows above
abbrev pub is_second_four : Component → ℕ → Bool
is_second_four Luma four = nat_eq (four % 2) 1
is_second_four Chroma four = false

-- where they are, their strength is this
abbrev pub IsCarried : Component → Squares → ℕ → ℕ → ℕ → Type 0
IsCarried component squares k four above =
    is_second_four component four ≡ true → above ≡ strength_of_four component squares k four

-- how many rows or columns of samples a square has
abbrev pub scale : Component → ℕ
scale Luma = 8
scale Chroma = 4
