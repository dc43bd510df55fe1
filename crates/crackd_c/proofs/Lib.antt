pub mod AsBox
pub mod CallLaws
pub mod PieceLaws
