mod WorkedVectors
