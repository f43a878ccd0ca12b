pub mod ResourceNames
pub mod Rules
pub mod Shapes
pub mod WholeNames
pub mod KeySet
pub mod FuncTrees
pub mod Externs
