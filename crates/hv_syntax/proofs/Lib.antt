mod AroundLemmas
mod ChainLemmas
mod CountLemmas
mod CountedLemmas
mod LeafLemmas
mod ModeLemmas
pub mod NamingLemmas
pub mod NodeLemmas
mod OffsetLemmas
mod PartLemmas
pub mod PictureLemmas
mod QuadtreeLemmas
mod SeenLemmas
mod UnitLemmas
