pub mod BoundNodes
pub mod WorthNodes
pub mod BindLemmas
pub mod FoldLemmas
pub mod ValueLemmas
