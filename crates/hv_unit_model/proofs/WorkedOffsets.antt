-- Worked values of the bins of sample adaptive offsets (7.3.8.3).
use Rattle.std.proofs.Common.{◌≡◌, Bool, true, false, List, [], ◌∷◌, ◌++◌, refl, ℤ, pos, negsuc, map}
use Rattle.hv_tables.specs.declared.bins.CtxTable.TheVariants.{SaoMerge, SaoType}
use Rattle.hv_plan.specs.declared.offsets.SaoKind.TheVariants.{Off, Band, Edge}
use Rattle.hv_plan.specs.declared.offsets.SaoParam.{SaoParam}
use Rattle.hv_residual_model.specs.UnitBins.{UnitBin, InBypass, unit_bin}
use Rattle.hv_residual_model.specs.Binarization.{truncated_unary_bins}
use Rattle.hv_tree_model.specs.Sites.{site}
use Rattle.hv_unit_model.specs.BlockSyntax.{component}
use Rattle.hv_unit_model.specs.Bins.{bin, sao_bins}

bypass_of : List Bool → List UnitBin
bypass_of values = map (unit_bin InBypass) values

no_offsets : List ℤ
no_offsets = pos 0 ∷ pos 0 ∷ pos 0 ∷ pos 0 ∷ []

off : SaoParam
off = record {
  luma = component Off no_offsets;
  cb = component Off no_offsets;
  cr = component Off no_offsets;
}

-- no offsets, in the first block, and in one with blocks at its left and above it
off_at_corner : sao_bins (site 192 192 0) off ≡ bin SaoType 0 false ∷ bin SaoType 0 false ∷ []
unfolding off no_offsets sao_bins truncated_unary_bins
off_at_corner = refl

off_inside :
    sao_bins (site 192 192 4) off ≡
    bin SaoMerge 0 false ∷ bin SaoMerge 0 false ∷ bin SaoType 0 false ∷ bin SaoType 0 false ∷ []
unfolding off no_offsets sao_bins truncated_unary_bins
off_inside = refl

-- a block at the left alone, and one above alone: of three columns
off_at_top :
    sao_bins (site 192 192 2) off ≡
    bin SaoMerge 0 false ∷ bin SaoType 0 false ∷ bin SaoType 0 false ∷ []
unfolding off no_offsets sao_bins truncated_unary_bins
off_at_top = refl

off_at_left :
    sao_bins (site 129 192 3) off ≡
    bin SaoMerge 0 false ∷ bin SaoType 0 false ∷ bin SaoType 0 false ∷ []
unfolding off no_offsets sao_bins truncated_unary_bins
off_at_left = refl

-- bands in luma, 3, -7, 0, 1 from band 29 on, and edges of class 2 in chroma
bands_and_edges : SaoParam
bands_and_edges = record {
  luma = component (Band 29) (pos 3 ∷ negsuc 6 ∷ pos 0 ∷ pos 1 ∷ []);
  cb = component (Edge 2) (pos 0 ∷ pos 7 ∷ negsuc 6 ∷ negsuc 0 ∷ []);
  cr = component (Edge 2) (pos 1 ∷ pos 0 ∷ pos 0 ∷ negsuc 1 ∷ []);
}

bins_of_bands_and_edges :
    sao_bins (site 64 64 0) bands_and_edges ≡
    -- a type of bands; 3, 7 without a zero, 0, 1; the signs of three; the position
    bin SaoType 0 true ∷ (bypass_of (false ∷ []) ++
    (bypass_of (true ∷ true ∷ true ∷ false ∷ []) ++
    (bypass_of (true ∷ true ∷ true ∷ true ∷ true ∷ true ∷ true ∷ []) ++
    (bypass_of (false ∷ []) ++ (bypass_of (true ∷ false ∷ []) ++
    (bypass_of (false ∷ true ∷ false ∷ []) ++
    (bypass_of (true ∷ true ∷ true ∷ false ∷ true ∷ []) ++
    -- a type of edges; 0, 7, 7, 1; the class
    (bin SaoType 0 true ∷ (bypass_of (true ∷ []) ++
    (bypass_of (false ∷ []) ++
    (bypass_of (true ∷ true ∷ true ∷ true ∷ true ∷ true ∷ true ∷ []) ++
    (bypass_of (true ∷ true ∷ true ∷ true ∷ true ∷ true ∷ true ∷ []) ++
    (bypass_of (true ∷ false ∷ []) ++ (bypass_of (true ∷ false ∷ []) ++
    -- 1, 0, 0, 2 without a class
    (bypass_of (true ∷ false ∷ []) ++ (bypass_of (false ∷ []) ++ (bypass_of (false ∷ []) ++
    bypass_of (true ∷ true ∷ false ∷ []))))))))))))))))))
unfolding bypass_of bands_and_edges sao_bins truncated_unary_bins
bins_of_bands_and_edges = refl

-- edges of class 1 in luma; bands in chroma, each with a position of its own
edges_and_bands : SaoParam
edges_and_bands = record {
  luma = component (Edge 1) (pos 2 ∷ pos 0 ∷ pos 0 ∷ negsuc 0 ∷ []);
  cb = component (Band 0) (negsuc 0 ∷ pos 0 ∷ pos 0 ∷ pos 0 ∷ []);
  cr = component (Band 31) (pos 0 ∷ pos 0 ∷ pos 0 ∷ pos 1 ∷ []);
}

bins_of_edges_and_bands :
    sao_bins (site 64 64 0) edges_and_bands ≡
    bin SaoType 0 true ∷
    (bypass_of (true ∷ true ∷ true ∷ false ∷ false ∷ false ∷ true ∷ false ∷ false ∷ true ∷ []) ++
    (bin SaoType 0 true ∷
    (bypass_of (false ∷ true ∷ false ∷ false ∷ false ∷ false ∷ true ∷ []) ++
    (bypass_of (false ∷ false ∷ false ∷ false ∷ false ∷ []) ++
    (bypass_of (false ∷ false ∷ false ∷ true ∷ false ∷ false ∷ []) ++
    bypass_of (true ∷ true ∷ true ∷ true ∷ true ∷ []))))))
unfolding bypass_of edges_and_bands sao_bins truncated_unary_bins
bins_of_edges_and_bands = refl
