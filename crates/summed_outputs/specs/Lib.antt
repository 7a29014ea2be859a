pub mod SummedOutputs
