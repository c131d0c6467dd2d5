mod HeadLemmas
mod HeardLemmas
mod OperationLemmas
mod TokenLemmas
